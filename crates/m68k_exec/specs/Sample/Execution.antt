-- What each instruction does: a line a row, in the order of the table of instructions.
-- M68000 Programmer's Reference Manual, sections 4 and 6.
use Rattle.std.specs.Prelude.{ℕ}
use Rattle.md_word.specs.declared.regs.Regs.{Regs}
use Rattle.m68k_decode.specs.declared.op.Op.{Op}
use Rattle.m68k_decode.specs.declared.op.Op.TheVariants as ops
use Rattle.m68k_access.specs.Actions.{Act, give}
use Rattle.m68k_exec.specs.Rows.Arithmetic as arithmetic
use Rattle.m68k_exec.specs.Rows.Bits as bits
use Rattle.m68k_exec.specs.Rows.Branches as branches
use Rattle.m68k_exec.specs.Rows.Comparisons as comparisons
use Rattle.m68k_exec.specs.Rows.Control as control
use Rattle.m68k_exec.specs.Rows.Immediates as immediates
use Rattle.m68k_exec.specs.Rows.Links as links
use Rattle.m68k_exec.specs.Rows.Movem as movem
use Rattle.m68k_exec.specs.Rows.Movep as movep
use Rattle.m68k_exec.specs.Rows.Moves as moves
use Rattle.m68k_exec.specs.Rows.Multiprecision as multiprecision
use Rattle.m68k_access.specs.Outcomes.{Outcome, plain}
use Rattle.m68k_exec.specs.Rows.Products as products
use Rattle.m68k_exec.specs.Rows.Quotients as quotients
use Rattle.m68k_exec.specs.Rows.Registers as registers
use Rattle.m68k_exec.specs.Rows.Setting as setting
use Rattle.m68k_exec.specs.Rows.Shifts as shifts
use Rattle.m68k_exec.specs.Rows.Single as single
use Rattle.m68k_exec.specs.Rows.Status as status

-- an instruction that is at `start`, with the program counter after it
abbrev pub row : Op → ℕ → Regs → Act Outcome
row (ops.Immediate task size number mode) start regs = immediates.immediate task size number mode start regs
row (ops.CompareImmediate size number mode) start regs = immediates.compare_immediate size number mode start regs
row (ops.ImmediateToCcr task number) start regs = give (immediates.immediate_to_ccr task number regs)
row (ops.ImmediateToSr task number) start regs = give (immediates.immediate_to_sr task number start regs)
row (ops.BitByRegister task n mode) start regs = bits.bit_by_register task n mode start regs
row (ops.BitByNumber task number mode) start regs = bits.bit_by_number task number mode start regs
row (ops.MovepToRegister size x y by) start regs = movep.movep_to_register size x y by start regs
row (ops.MovepToMemory size x y by) start regs = movep.movep_to_memory size x y by start regs
row (ops.Move size source target) start regs = moves.move_operand size source target start regs
row (ops.Movea size n mode) start regs = moves.move_address size n mode start regs
row (ops.Unary task size mode) start regs = single.unary task size mode start regs
row (ops.MoveFromSr mode) start regs = status.move_from_sr mode start regs
row (ops.MoveToCcr mode) start regs = status.move_to_ccr mode start regs
row (ops.MoveToSr mode) start regs = status.move_to_sr mode start regs
row (ops.Nbcd mode) start regs = single.nbcd mode start regs
row (ops.Swap n) start regs = give (single.swap n regs)
row (ops.Ext size n) start regs = give (single.ext size n regs)
row (ops.Pea mode) start regs = links.pea mode start regs
row (ops.MovemToMemory size list mode) start regs = movem.movem_to_memory size list mode start regs
row (ops.MovemToRegisters size list mode) start regs = movem.movem_to_registers size list mode start regs
row (ops.Tst size mode) start regs = single.tst size mode start regs
row (ops.Tas mode) start regs = single.tas mode start regs
row (ops.Trap number) start regs = give (control.trap number regs)
row (ops.Link n by) start regs = links.link n by regs
row (ops.Unlk n) start regs = links.unlk n regs
row (ops.MoveToUsp n) start regs = give (status.move_to_usp n start regs)
row (ops.MoveFromUsp n) start regs = give (status.move_from_usp n start regs)
row ops.Reset start regs = give (status.reset start regs)
row ops.Nop start regs = give (plain regs)
row (ops.Stop value) start regs = give (status.stop value start regs)
row ops.Rte start regs = control.rte start regs
row ops.Rts start regs = control.rts regs
row ops.Trapv start regs = give (control.trapv regs)
row ops.Rtr start regs = control.rtr regs
row (ops.Jsr mode) start regs = control.jsr mode start regs
row (ops.Jmp mode) start regs = give (control.jmp mode start regs)
row (ops.Lea n mode) start regs = give (links.lea n mode start regs)
row (ops.Chk n mode) start regs = control.chk n mode start regs
row (ops.Quick task size number mode) start regs = arithmetic.quick task size number mode start regs
row (ops.Scc condition mode) start regs = setting.scc condition mode start regs
row (ops.Dbcc condition n by) start regs = give (branches.dbcc condition n by start regs)
row (ops.Bra displacement) start regs = give (branches.bra displacement start regs)
row (ops.Bsr displacement) start regs = branches.bsr displacement start regs
row (ops.Bcc condition displacement) start regs = give (branches.bcc condition displacement start regs)
row (ops.Moveq n byte) start regs = give (registers.moveq n byte regs)
row (ops.Divu n mode) start regs = quotients.divu n mode start regs
row (ops.Divs n mode) start regs = quotients.divs n mode start regs
row (ops.Decimal task source target) start regs = multiprecision.decimal task source target start regs
row (ops.Extended task size source target) start regs = multiprecision.extended task size source target start regs
row (ops.ToRegister task size n mode) start regs = arithmetic.to_register task size n mode start regs
row (ops.ToMemory task size n mode) start regs = arithmetic.to_memory task size n mode start regs
row (ops.ToAddress task size n mode) start regs = arithmetic.to_address task size n mode start regs
row (ops.Cmp size n mode) start regs = comparisons.cmp size n mode start regs
row (ops.Cmpa size n mode) start regs = comparisons.cmpa size n mode start regs
row (ops.Eor size n mode) start regs = arithmetic.eor size n mode start regs
row (ops.Cmpm size x y) start regs = comparisons.cmpm size x y start regs
row (ops.Mulu n mode) start regs = products.mulu n mode start regs
row (ops.Muls n mode) start regs = products.muls n mode start regs
row (ops.Exg n r) start regs = give (registers.exg n r regs)
row (ops.ShiftByNumber task size number r) start regs = give (shifts.shift_by_number task size number r regs)
row (ops.ShiftByRegister task size n r) start regs = give (shifts.shift_by_register task size n r regs)
row (ops.ShiftMemory task mode) start regs = arithmetic.shift_memory task mode start regs
row (ops.Illegal opcode) start regs = give (control.illegal start regs)
row (ops.LineA opcode) start regs = give (control.line_a_opcode start regs)
row (ops.LineF opcode) start regs = give (control.line_f_opcode start regs)
