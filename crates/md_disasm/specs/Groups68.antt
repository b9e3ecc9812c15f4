-- The instructions of the 68000 in groups, of which one function takes each.
use Rattle.m68k_decode.specs.declared.op.Op.{Op}
use Rattle.m68k_decode.specs.declared.op.Op.TheVariants as ops

-- instructions with a number, and those on a bit
abbrev pub IsOfNumber : Op → Type 0
IsOfNumber (ops.Immediate _ _ _ _) = Unit {0}
IsOfNumber (ops.CompareImmediate _ _ _) = Unit {0}
IsOfNumber (ops.ImmediateToCcr _ _) = Unit {0}
IsOfNumber (ops.ImmediateToSr _ _) = Unit {0}
IsOfNumber (ops.BitByRegister _ _ _) = Unit {0}
IsOfNumber (ops.BitByNumber _ _ _) = Unit {0}
IsOfNumber (ops.Quick _ _ _ _) = Unit {0}
IsOfNumber (ops.Moveq _ _) = Unit {0}
IsOfNumber _ = ⊥

-- moves of operands, of addresses and of lists of registers
abbrev pub IsMove : Op → Type 0
IsMove (ops.MovepToRegister _ _ _ _) = Unit {0}
IsMove (ops.MovepToMemory _ _ _ _) = Unit {0}
IsMove (ops.Move _ _ _) = Unit {0}
IsMove (ops.Movea _ _ _) = Unit {0}
IsMove (ops.Pea _) = Unit {0}
IsMove (ops.MovemToMemory _ _ _) = Unit {0}
IsMove (ops.MovemToRegisters _ _ _) = Unit {0}
IsMove (ops.Lea _ _) = Unit {0}
IsMove (ops.Exg _ _) = Unit {0}
IsMove _ = ⊥

-- instructions on the status, without an operand, and what is no instruction
abbrev pub IsControl : Op → Type 0
IsControl (ops.MoveFromSr _) = Unit {0}
IsControl (ops.MoveToCcr _) = Unit {0}
IsControl (ops.MoveToSr _) = Unit {0}
IsControl (ops.MoveToUsp _) = Unit {0}
IsControl (ops.MoveFromUsp _) = Unit {0}
IsControl ops.Reset = Unit {0}
IsControl ops.Nop = Unit {0}
IsControl (ops.Stop _) = Unit {0}
IsControl ops.Rte = Unit {0}
IsControl ops.Rts = Unit {0}
IsControl ops.Trapv = Unit {0}
IsControl ops.Rtr = Unit {0}
IsControl (ops.Illegal _) = Unit {0}
IsControl (ops.LineA _) = Unit {0}
IsControl (ops.LineF _) = Unit {0}
IsControl _ = ⊥

-- branches, jumps, traps and what a condition sets, at an address
abbrev pub IsJump : Op → Type 0
IsJump (ops.Trap _) = Unit {0}
IsJump (ops.Jsr _) = Unit {0}
IsJump (ops.Jmp _) = Unit {0}
IsJump (ops.Chk _ _) = Unit {0}
IsJump (ops.Scc _ _) = Unit {0}
IsJump (ops.Dbcc _ _ _) = Unit {0}
IsJump (ops.Bra _) = Unit {0}
IsJump (ops.Bsr _) = Unit {0}
IsJump (ops.Bcc _ _) = Unit {0}
IsJump _ = ⊥

-- instructions on one operand, and shifts
abbrev pub IsOnOperand : Op → Type 0
IsOnOperand (ops.Unary _ _ _) = Unit {0}
IsOnOperand (ops.Nbcd _) = Unit {0}
IsOnOperand (ops.Swap _) = Unit {0}
IsOnOperand (ops.Ext _ _) = Unit {0}
IsOnOperand (ops.Tst _ _) = Unit {0}
IsOnOperand (ops.Tas _) = Unit {0}
IsOnOperand (ops.Link _ _) = Unit {0}
IsOnOperand (ops.Unlk _) = Unit {0}
IsOnOperand (ops.ShiftByNumber _ _ _ _) = Unit {0}
IsOnOperand (ops.ShiftByRegister _ _ _ _) = Unit {0}
IsOnOperand (ops.ShiftMemory _ _) = Unit {0}
IsOnOperand _ = ⊥

-- sums, differences, comparisons, products and quotients
abbrev pub IsSum : Op → Type 0
IsSum (ops.Divu _ _) = Unit {0}
IsSum (ops.Divs _ _) = Unit {0}
IsSum (ops.Decimal _ _ _) = Unit {0}
IsSum (ops.Extended _ _ _ _) = Unit {0}
IsSum (ops.ToRegister _ _ _ _) = Unit {0}
IsSum (ops.ToMemory _ _ _ _) = Unit {0}
IsSum (ops.ToAddress _ _ _ _) = Unit {0}
IsSum (ops.Cmp _ _ _) = Unit {0}
IsSum (ops.Cmpa _ _ _) = Unit {0}
IsSum (ops.Eor _ _ _) = Unit {0}
IsSum (ops.Cmpm _ _ _) = Unit {0}
IsSum (ops.Mulu _ _) = Unit {0}
IsSum (ops.Muls _ _) = Unit {0}
IsSum _ = ⊥
