-- The time of an instruction, in clocks: a line a row. M68000 User's Manual, section 8.
use Rattle.std.specs.Prelude.{ℕ, ◌+◌, ◌*◌, ◌==◌, cond}
use Rattle.md_word.specs.declared.mode.Mode.{Mode}
use Rattle.md_word.specs.declared.mode.Mode.TheVariants as modes
use Rattle.md_word.specs.declared.size.Size.{Size}
use Rattle.md_word.specs.declared.size.Size.TheVariants.{Byte, Word}
use Rattle.md_word.specs.declared.spent.Spent.{Spent}
use Rattle.md_word.specs.declared.task.Task.{Task}
use Rattle.md_word.specs.declared.task.Task.TheVariants as tasks
use Rattle.m68k_decode.specs.declared.displacement.Displacement.{Displacement}
use Rattle.m68k_decode.specs.declared.displacement.Displacement.TheVariants as displacements
use Rattle.m68k_decode.specs.declared.op.Op.{Op}
use Rattle.m68k_decode.specs.declared.op.Op.TheVariants as ops
use Rattle.m68k_time.specs.Addresses.{address_time, by_size, by_source, control_times_of, placed, target_time}
use Rattle.m68k_time.specs.Exceptions.{exception_time}

-- BTST, BCHG, BCLR and BSET by a data register: in a register, and in memory
abbrev pub bit_time : Task → Mode → ℕ
bit_time tasks.Btst mode = placed mode 6 (4 + address_time Byte mode)
bit_time tasks.Bclr mode = placed mode 10 (8 + address_time Byte mode)
bit_time _ mode = placed mode 8 (8 + address_time Byte mode)

-- a branch that is not taken has its displacement in the first word or after it
abbrev pub passed_time : Displacement → ℕ
passed_time (displacements.Byte _) = 8
passed_time (displacements.Word _) = 12

-- ADDQ and SUBQ: on an address register all of it is changed, whatever the size
abbrev pub quick_time : Size → Mode → ℕ
quick_time size (modes.Address _) = 8
quick_time size mode = placed mode (by_size size 4 8) (by_size size 8 12 + address_time size mode)

-- the time of an instruction that ends in no exception
abbrev pub row_time : Op → Spent → ℕ
row_time (ops.Immediate _ size _ mode) spent = placed mode (by_size size 8 16) (by_size size 12 20 + address_time size mode)
row_time (ops.CompareImmediate size _ mode) spent = placed mode (by_size size 8 14) (by_size size 8 12 + address_time size mode)
row_time (ops.ImmediateToCcr _ _) spent = 20
row_time (ops.ImmediateToSr _ _) spent = 20
row_time (ops.BitByRegister task _ mode) spent = bit_time task mode
row_time (ops.BitByNumber task _ mode) spent = 4 + bit_time task mode
row_time (ops.MovepToRegister size _ _ _) spent = by_size size 16 24
row_time (ops.MovepToMemory size _ _ _) spent = by_size size 16 24
row_time (ops.Move size source target) spent = 4 + address_time size source + target_time size target
row_time (ops.Movea size _ source) spent = 4 + address_time size source
row_time (ops.Unary _ size mode) spent = placed mode (by_size size 4 6) (by_size size 8 12 + address_time size mode)
row_time (ops.MoveFromSr mode) spent = placed mode 6 (8 + address_time Word mode)
row_time (ops.MoveToCcr mode) spent = 12 + address_time Word mode
row_time (ops.MoveToSr mode) spent = 12 + address_time Word mode
row_time (ops.Nbcd mode) spent = placed mode 6 (8 + address_time Byte mode)
row_time (ops.Swap _) spent = 4
row_time (ops.Ext _ _) spent = 4
row_time (ops.Pea mode) spent = (control_times_of mode).pea
row_time (ops.MovemToMemory size _ mode) spent = (control_times_of mode).to_memory + by_size size 4 8 * spent.count
row_time (ops.MovemToRegisters size _ mode) spent = (control_times_of mode).to_registers + by_size size 4 8 * spent.count
row_time (ops.Tst size mode) spent = 4 + address_time size mode
row_time (ops.Tas mode) spent = placed mode 4 (10 + address_time Byte mode)
row_time (ops.Trap _) spent = 34
row_time (ops.Link _ _) spent = 16
row_time (ops.Unlk _) spent = 12
row_time (ops.MoveToUsp _) spent = 4
row_time (ops.MoveFromUsp _) spent = 4
row_time ops.Reset spent = 132
row_time ops.Nop spent = 4
row_time (ops.Stop _) spent = 4
row_time ops.Rte spent = 20
row_time ops.Rts spent = 16
row_time ops.Trapv spent = 4
row_time ops.Rtr spent = 20
row_time (ops.Jsr mode) spent = (control_times_of mode).jsr
row_time (ops.Jmp mode) spent = (control_times_of mode).jmp
row_time (ops.Lea _ mode) spent = (control_times_of mode).lea
row_time (ops.Chk _ mode) spent = 10 + address_time Word mode
row_time (ops.Quick _ size _ mode) spent = quick_time size mode
row_time (ops.Scc _ mode) spent = placed mode (cond spent.taken 6 4) (8 + address_time Byte mode)
row_time (ops.Dbcc _ _ _) spent = cond spent.expired 14 (cond spent.taken 10 12)
row_time (ops.Bra _) spent = 10
row_time (ops.Bsr _) spent = 18
row_time (ops.Bcc _ displacement) spent = cond spent.taken 10 (passed_time displacement)
row_time (ops.Moveq _ _) spent = 4
row_time (ops.Divu _ mode) spent = 140 + address_time Word mode
row_time (ops.Divs _ mode) spent = 158 + address_time Word mode
row_time (ops.Decimal _ source _) spent = placed source 6 18
row_time (ops.Extended _ size source _) spent = placed source (by_size size 4 8) (by_size size 18 30)
row_time (ops.ToRegister _ size _ mode) spent = by_size size 4 (by_source mode 8 6) + address_time size mode
row_time (ops.ToMemory _ size _ mode) spent = by_size size 8 12 + address_time size mode
row_time (ops.ToAddress _ size _ mode) spent = by_size size 8 (by_source mode 8 6) + address_time size mode
row_time (ops.Cmp size _ mode) spent = by_size size 4 6 + address_time size mode
row_time (ops.Cmpa size _ mode) spent = 6 + address_time size mode
row_time (ops.Eor size _ mode) spent = placed mode (by_size size 4 8) (by_size size 8 12 + address_time size mode)
row_time (ops.Cmpm size _ _) spent = by_size size 12 20
row_time (ops.Mulu _ mode) spent = 38 + 2 * spent.count + address_time Word mode
row_time (ops.Muls _ mode) spent = 38 + 2 * spent.count + address_time Word mode
row_time (ops.Exg _ _) spent = 6
row_time (ops.ShiftByNumber _ size _ _) spent = by_size size 6 8 + 2 * spent.count
row_time (ops.ShiftByRegister _ size _ _) spent = by_size size 6 8 + 2 * spent.count
row_time (ops.ShiftMemory _ mode) spent = 8 + address_time Word mode
row_time (ops.Illegal _) spent = 34
row_time (ops.LineA _) spent = 34
row_time (ops.LineF _) spent = 34

-- the whole time: that of the exception in which the instruction ended, else its row's
abbrev pub clocks_of : Op → Spent → ℕ
clocks_of op spent = cond (spent.cause == 0) (row_time op spent) (exception_time spent.cause op)
