-- The times of addresses, in clocks. M68000 User's Manual, section 8.
use Rattle.std.specs.Prelude.{ℕ}
use Rattle.md_word.specs.declared.mode.Mode.{Mode}
use Rattle.md_word.specs.declared.mode.Mode.TheVariants.{Data, Address, Indirect, PostInc, PreDec, Displaced, Indexed, AbsShort, AbsLong, PcDisplaced, PcIndexed, Immediate}
use Rattle.md_word.specs.declared.size.Size.{Size}
use Rattle.md_word.specs.declared.size.Size.TheVariants.{Byte, Word, Long}

-- a time of bytes and words, and one of longs
abbrev pub by_size : Size → ℕ → ℕ → ℕ
by_size Byte short long = short
by_size Word short long = short
by_size Long short long = long

-- the time to calculate an operand's address and to read it
abbrev pub address_time : Size → Mode → ℕ
address_time size (Data _) = 0
address_time size (Address _) = 0
address_time size (Indirect _) = by_size size 4 8
address_time size (PostInc _) = by_size size 4 8
address_time size (PreDec _) = by_size size 6 10
address_time size (Displaced _ _) = by_size size 8 12
address_time size (Indexed _ _ _ _) = by_size size 10 14
address_time size (AbsShort _) = by_size size 8 12
address_time size (AbsLong _) = by_size size 12 16
address_time size (PcDisplaced _) = by_size size 8 12
address_time size (PcIndexed _ _ _) = by_size size 10 14
address_time size (Immediate _) = by_size size 4 8

-- the same of the target of MOVE, which is not read: the decrement takes no time of its own
abbrev pub target_time : Size → Mode → ℕ
target_time size (PreDec _) = by_size size 4 8
target_time size mode = address_time size mode

-- the whole times of LEA, PEA, JMP and JSR, and those of MOVEM without its registers; 0 where the
-- instruction has no such mode
pub record ControlTimes : Type 0 where
  pub lea : ℕ
  pub pea : ℕ
  pub jmp : ℕ
  pub jsr : ℕ
  pub to_memory : ℕ
  pub to_registers : ℕ

-- the times of a mode, in the order of their columns
abbrev pub row : ℕ → ℕ → ℕ → ℕ → ℕ → ℕ → ControlTimes
row lea pea jmp jsr to_memory to_registers = record { lea = lea; pea = pea; jmp = jmp; jsr = jsr; to_memory = to_memory; to_registers = to_registers }

-- the times of each mode
abbrev pub control_times_of : Mode → ControlTimes
control_times_of (Indirect _) = row 4 12 8 16 8 12
control_times_of (PostInc _) = row 0 0 0 0 0 12
control_times_of (PreDec _) = row 0 0 0 0 8 0
control_times_of (Displaced _ _) = row 8 16 10 18 12 16
control_times_of (AbsShort _) = row 8 16 10 18 12 16
control_times_of (PcDisplaced _) = row 8 16 10 18 0 16
control_times_of (Indexed _ _ _ _) = row 12 20 14 22 14 18
control_times_of (PcIndexed _ _ _) = row 12 20 14 22 0 18
control_times_of (AbsLong _) = row 12 20 12 20 16 20
control_times_of _ = row 0 0 0 0 0 0

-- an operand in a register or in memory
abbrev pub placed : Mode → ℕ → ℕ → ℕ
placed (Data _) register memory = register
placed (Address _) register memory = register
placed _ register memory = memory

-- a long operand that is read from memory leaves the processor less to do afterwards
abbrev pub by_source : Mode → ℕ → ℕ → ℕ
by_source (Data _) inside memory = inside
by_source (Address _) inside memory = inside
by_source (Immediate _) inside memory = inside
by_source _ inside memory = memory
