-- The instructions that one function carries out.
use Rattle.m68k_decode.specs.declared.op.Op.{Op}
use Rattle.m68k_decode.specs.declared.op.Op.TheVariants as ops

-- instructions with a number after the opcode, those on a bit, and MOVEP: the first digit is 0
abbrev pub IsOfNumber : Op → Type 0
IsOfNumber (ops.Immediate _ _ _ _) = Unit {0}
IsOfNumber (ops.CompareImmediate _ _ _) = Unit {0}
IsOfNumber (ops.ImmediateToCcr _ _) = Unit {0}
IsOfNumber (ops.ImmediateToSr _ _) = Unit {0}
IsOfNumber (ops.BitByRegister _ _ _) = Unit {0}
IsOfNumber (ops.BitByNumber _ _ _) = Unit {0}
IsOfNumber (ops.MovepToRegister _ _ _ _) = Unit {0}
IsOfNumber (ops.MovepToMemory _ _ _ _) = Unit {0}
IsOfNumber _ = ⊥

-- moves of an operand, of a small number and of an address
abbrev pub IsMove : Op → Type 0
IsMove (ops.Move _ _ _) = Unit {0}
IsMove (ops.Movea _ _ _) = Unit {0}
IsMove (ops.Moveq _ _) = Unit {0}
IsMove (ops.Lea _ _) = Unit {0}
IsMove _ = ⊥

-- sums, differences, comparisons and logical operations with a register
abbrev pub IsSum : Op → Type 0
IsSum (ops.Quick _ _ _ _) = Unit {0}
IsSum (ops.ToRegister _ _ _ _) = Unit {0}
IsSum (ops.ToMemory _ _ _ _) = Unit {0}
IsSum (ops.ToAddress _ _ _ _) = Unit {0}
IsSum (ops.Cmp _ _ _) = Unit {0}
IsSum (ops.Cmpa _ _ _) = Unit {0}
IsSum (ops.Eor _ _ _) = Unit {0}
IsSum (ops.Cmpm _ _ _) = Unit {0}
IsSum _ = ⊥

-- branches, jumps, calls and what a condition sets
abbrev pub IsJump : Op → Type 0
IsJump ops.Nop = Unit {0}
IsJump ops.Rts = Unit {0}
IsJump (ops.Jsr _) = Unit {0}
IsJump (ops.Jmp _) = Unit {0}
IsJump (ops.Scc _ _) = Unit {0}
IsJump (ops.Dbcc _ _ _) = Unit {0}
IsJump (ops.Bra _) = Unit {0}
IsJump (ops.Bsr _) = Unit {0}
IsJump (ops.Bcc _ _) = Unit {0}
IsJump _ = ⊥

-- instructions on one operand, and those that move registers to a stack
abbrev pub IsOnOperand : Op → Type 0
IsOnOperand (ops.Unary _ _ _) = Unit {0}
IsOnOperand (ops.Nbcd _) = Unit {0}
IsOnOperand (ops.Pea _) = Unit {0}
IsOnOperand (ops.MovemToMemory _ _ _) = Unit {0}
IsOnOperand (ops.MovemToRegisters _ _ _) = Unit {0}
IsOnOperand (ops.Tst _ _) = Unit {0}
IsOnOperand (ops.Tas _) = Unit {0}
IsOnOperand (ops.Link _ _) = Unit {0}
IsOnOperand (ops.Unlk _) = Unit {0}
IsOnOperand _ = ⊥

-- products, quotients, bounds, and sums of several parts
abbrev pub IsProduct : Op → Type 0
IsProduct (ops.Chk _ _) = Unit {0}
IsProduct (ops.Divu _ _) = Unit {0}
IsProduct (ops.Divs _ _) = Unit {0}
IsProduct (ops.Decimal _ _ _) = Unit {0}
IsProduct (ops.Extended _ _ _ _) = Unit {0}
IsProduct (ops.Mulu _ _) = Unit {0}
IsProduct (ops.Muls _ _) = Unit {0}
IsProduct _ = ⊥

-- instructions on registers alone, and shifts
abbrev pub IsOnRegister : Op → Type 0
IsOnRegister (ops.Swap _) = Unit {0}
IsOnRegister (ops.Ext _ _) = Unit {0}
IsOnRegister (ops.Exg _ _) = Unit {0}
IsOnRegister (ops.ShiftByNumber _ _ _ _) = Unit {0}
IsOnRegister (ops.ShiftByRegister _ _ _ _) = Unit {0}
IsOnRegister (ops.ShiftMemory _ _) = Unit {0}
IsOnRegister _ = ⊥

-- instructions on the status register and the user stack pointer, those that end in an exception, and returns from one
abbrev pub IsControl : Op → Type 0
IsControl (ops.MoveFromSr _) = Unit {0}
IsControl (ops.MoveToCcr _) = Unit {0}
IsControl (ops.MoveToSr _) = Unit {0}
IsControl (ops.Trap _) = Unit {0}
IsControl (ops.MoveToUsp _) = Unit {0}
IsControl (ops.MoveFromUsp _) = Unit {0}
IsControl ops.Reset = Unit {0}
IsControl (ops.Stop _) = Unit {0}
IsControl ops.Rte = Unit {0}
IsControl ops.Trapv = Unit {0}
IsControl ops.Rtr = Unit {0}
IsControl (ops.Illegal _) = Unit {0}
IsControl (ops.LineA _) = Unit {0}
IsControl (ops.LineF _) = Unit {0}
IsControl _ = ⊥
