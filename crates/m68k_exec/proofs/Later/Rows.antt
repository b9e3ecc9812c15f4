-- Answers beyond those that it takes change nothing: of each instruction.
use Rattle.std.proofs.Common.{ℕ}
use Rattle.md_word.specs.declared.regs.Regs.{Regs}
use Rattle.m68k_decode.specs.declared.op.Op.{Op}
use Rattle.m68k_decode.specs.declared.op.Op.TheVariants as ops
use Rattle.m68k_access.proofs.Later.Accesses.{give}
use Rattle.m68k_exec.proofs.Later.First as first
use Rattle.m68k_exec.proofs.Later.Operations as operations
use Rattle.m68k_exec.specs.Sample.Execution as execution
use Rattle.m68k_access.specs.Laws.{IgnoresLaterAnswers}

pub row : (op : Op) (start : ℕ) (regs : Regs) → IgnoresLaterAnswers (execution.row op start regs)
row (ops.Immediate operation size number mode) start regs = first.immediate operation size number mode start regs
row (ops.CompareImmediate size number mode) start regs = first.compare_immediate size number mode start regs
row (ops.BitByRegister operation n mode) start regs = first.bit_by_register operation n mode start regs
row (ops.BitByNumber operation number mode) start regs = first.bit_by_number operation number mode start regs
row (ops.MovepToRegister size x y by) start regs = first.movep_to_register size x y by start regs
row (ops.MovepToMemory size x y by) start regs = first.movep_to_memory size x y by start regs
row (ops.Move size source target) start regs = first.move_operand size source target start regs
row (ops.Movea size n mode) start regs = first.move_address size n mode start regs
row (ops.Unary operation size mode) start regs = first.unary operation size mode start regs
row (ops.MoveFromSr mode) start regs = first.move_from_sr mode start regs
row (ops.MoveToCcr mode) start regs = first.move_to_ccr mode start regs
row (ops.MoveToSr mode) start regs = first.move_to_sr mode start regs
row (ops.Nbcd mode) start regs = first.nbcd mode start regs
row (ops.Pea mode) start regs = first.pea mode start regs
row (ops.MovemToMemory size list mode) start regs = first.movem_to_memory size list mode start regs
row (ops.MovemToRegisters size list mode) start regs = first.movem_to_registers size list mode start regs
row (ops.Tst size mode) start regs = first.tst size mode start regs
row (ops.Tas mode) start regs = first.tas mode start regs
row (ops.Link n by) start regs = first.link n by regs
row (ops.Unlk n) start regs = first.unlk n regs
row ops.Rte start regs = first.rte start regs
row ops.Rts start regs = first.rts regs
row ops.Rtr start regs = first.rtr regs
row (ops.Jsr mode) start regs = first.jsr mode start regs
row (ops.Chk n mode) start regs = first.chk n mode start regs
row (ops.Quick operation size number mode) start regs = operations.quick operation size number mode start regs
row (ops.Scc condition mode) start regs = operations.scc condition mode start regs
row (ops.Bsr displacement) start regs = operations.bsr displacement start regs
row (ops.Divu n mode) start regs = operations.divu n mode start regs
row (ops.Divs n mode) start regs = operations.divs n mode start regs
row (ops.Decimal operation source target) start regs = operations.decimal operation source target start regs
row (ops.Extended operation size source target) start regs = operations.extended operation size source target start regs
row (ops.ToRegister operation size n mode) start regs = operations.to_register operation size n mode start regs
row (ops.ToMemory operation size n mode) start regs = operations.to_memory operation size n mode start regs
row (ops.ToAddress operation size n mode) start regs = operations.to_address operation size n mode start regs
row (ops.Cmp size n mode) start regs = operations.cmp size n mode start regs
row (ops.Cmpa size n mode) start regs = operations.cmpa size n mode start regs
row (ops.Eor size n mode) start regs = operations.eor size n mode start regs
row (ops.Cmpm size x y) start regs = operations.cmpm size x y start regs
row (ops.Mulu n mode) start regs = operations.mulu n mode start regs
row (ops.Muls n mode) start regs = operations.muls n mode start regs
row (ops.ShiftMemory operation mode) start regs = operations.shift_memory operation mode start regs
row _ start regs = give _
