-- The numbers that a saved state keeps of the 68000, whatever they are, in their order. This project's
-- profile.
use Rattle.std.specs.Prelude.{◌≡◌, ℕ, ◌==◌, if◌then◌else◌, List, [], ◌∷◌, length, take, slice_index, Option, Some, None}
use Rattle.md_fields.specs.Padding.{padded}
use Rattle.md_word.specs.Coding.{flag_number}
use Rattle.md_word.specs.declared.regs.Regs.{Regs}
use Rattle.m68k_access.specs.Memory.{ram_size}
use Rattle.m68k_chip.specs.States.{State68}
use Rattle.m68k_chip.specs.declared.stage.Stage.{Stage}
use Rattle.m68k_chip.specs.declared.stage.Stage.TheVariants.{Sample, Access, Word}

-- what is kept: the place among its events, the registers, and work RAM; a flag is 0 or 1
pub record Numbers68 : Type 0 where
  pub next : ℕ
  -- 0 a sample, 1 an access, 2 a word of a transfer
  pub stage : ℕ
  pub start : ℕ
  pub d0 : ℕ
  pub d1 : ℕ
  pub d2 : ℕ
  pub d3 : ℕ
  pub d4 : ℕ
  pub d5 : ℕ
  pub d6 : ℕ
  pub d7 : ℕ
  pub a0 : ℕ
  pub a1 : ℕ
  pub a2 : ℕ
  pub a3 : ℕ
  pub a4 : ℕ
  pub a5 : ℕ
  pub a6 : ℕ
  pub usp : ℕ
  pub ssp : ℕ
  pub pc : ℕ
  pub sr : ℕ
  pub stopped : ℕ
  pub halted : ℕ
  pub trace : ℕ
  -- the start of what halted it
  pub since : ℕ
  pub cause : ℕ
  -- how many of the answers there are
  pub count : ℕ
  pub answers : List ℕ
  pub source : ℕ
  pub words : ℕ
  pub cost : ℕ
  pub ram : List ℕ

-- a stage by its number
abbrev pub stage_number : Stage → ℕ
stage_number Sample = 0
stage_number Access = 1
stage_number Word = 2

-- the stage of a number; above 1 a word of a transfer
abbrev pub stage_of : ℕ → Stage
stage_of n = if n == 0 then Sample else (if n == 1 then Access else Word)

-- 1 where it is halted
abbrev pub halted_number : Option ℕ → ℕ
halted_number None = 0
halted_number (Some since) = 1

-- the cycle at which began what halted it, 0 where it is not halted
abbrev pub since_of : Option ℕ → ℕ
since_of None = 0
since_of (Some since) = since

-- what is kept of a state
abbrev pub numbers_of : State68 → Numbers68
numbers_of state = record {
  next = state.next;
  stage = stage_number state.stage;
  start = state.start;
  d0 = slice_index state.regs.d 0;
  d1 = slice_index state.regs.d 1;
  d2 = slice_index state.regs.d 2;
  d3 = slice_index state.regs.d 3;
  d4 = slice_index state.regs.d 4;
  d5 = slice_index state.regs.d 5;
  d6 = slice_index state.regs.d 6;
  d7 = slice_index state.regs.d 7;
  a0 = slice_index state.regs.a 0;
  a1 = slice_index state.regs.a 1;
  a2 = slice_index state.regs.a 2;
  a3 = slice_index state.regs.a 3;
  a4 = slice_index state.regs.a 4;
  a5 = slice_index state.regs.a 5;
  a6 = slice_index state.regs.a 6;
  usp = state.regs.usp;
  ssp = state.regs.ssp;
  pc = state.regs.pc;
  sr = state.regs.sr;
  stopped = flag_number state.stopped;
  halted = halted_number state.halted;
  trace = flag_number state.trace;
  since = since_of state.halted;
  cause = state.cause;
  count = length state.answers;
  answers = padded 32 state.answers;
  source = state.transfer.source;
  words = state.transfer.words;
  cost = state.transfer.cost;
  ram = state.ram;
}

-- the registers of which these numbers are kept
abbrev pub regs_from : Numbers68 → Regs
regs_from n = record {
  d = n.d0 ∷ n.d1 ∷ n.d2 ∷ n.d3 ∷ n.d4 ∷ n.d5 ∷ n.d6 ∷ n.d7 ∷ [];
  a = n.a0 ∷ n.a1 ∷ n.a2 ∷ n.a3 ∷ n.a4 ∷ n.a5 ∷ n.a6 ∷ [];
  usp = n.usp;
  ssp = n.ssp;
  pc = n.pc;
  sr = n.sr;
}

-- the state of which these numbers are kept; a flag is set where its number is 1
abbrev pub state_from : Numbers68 → State68
state_from n = record {
  next = n.next;
  stage = stage_of n.stage;
  start = n.start;
  regs = regs_from n;
  stopped = n.stopped == 1;
  trace = n.trace == 1;
  halted = if n.halted == 1 then Some n.since else None;
  cause = n.cause;
  answers = take n.count n.answers;
  transfer = record { source = n.source; words = n.words; cost = n.cost };
  ram = n.ram;
}

-- there are 8 data registers, and 7 address registers beside the stack pointers
pub record IsRegs (regs : Regs) : Type 0 where
  pub data_registers : length regs.d ≡ 8
  pub address_registers : length regs.a ≡ 7

-- the sizes of what is kept
pub record AreSizes (regs : Regs) (answers ram : List ℕ) : Type 0 where
  pub of_regs : IsRegs regs
  pub of_answers : length answers ≡ 32
  pub of_ram : length ram ≡ ram_size
