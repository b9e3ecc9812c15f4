-- The 68000 between two of its events.
-- M68000 User's Manual, section 6, on its states; the events are this project's profile.
use Rattle.std.specs.Prelude.{ℕ, ◌+◌, ◌*◌, Bool, true, false, List, [], replicate, Option, None, slice_index}
use Rattle.md_word.specs.declared.event.Next.{Next}
use Rattle.md_word.specs.declared.main_bus.Transfer.{Transfer}
use Rattle.md_word.specs.declared.regs.Regs.{Regs}
use Rattle.m68k_access.specs.Memory.{ram_size}
use Rattle.m68k_chip.specs.declared.sequencer.Sequencer.{Sequencer}
use Rattle.m68k_chip.specs.declared.stage.Stage.{Stage}
use Rattle.m68k_chip.specs.declared.stage.Stage.TheVariants.{Sample, Access, Word}

-- the processor, its work RAM, and its place among its events; cycles are master cycles
pub record State68 : Type 0 where
  -- the cycle of the next event, and what it is
  pub next : ℕ
  pub stage : Stage
  -- the cycle at which the instruction or exception began whose access is next; else `next`
  pub start : ℕ
  pub regs : Regs
  pub stopped : Bool
  -- a trace is pending
  pub trace : Bool
  -- the start of the instruction that halted it
  pub halted : Option ℕ
  -- at an access: what is carried out, 0 for an instruction, the level of an interrupt, 8 for a trace;
  -- and what its shared accesses have answered
  pub cause : ℕ
  pub answers : List ℕ
  -- the words of a transfer that are left, all 0 where there are none
  pub transfer : Transfer
  pub ram : List ℕ

-- the state whose parts are these
abbrev pub state_of : Sequencer → List ℕ → State68
state_of sequencer ram = record {
  next = sequencer.next;
  stage = sequencer.stage;
  start = sequencer.start;
  regs = sequencer.regs;
  stopped = sequencer.stopped;
  trace = sequencer.trace;
  halted = sequencer.halted;
  cause = sequencer.cause;
  answers = sequencer.answers.items;
  transfer = sequencer.transfer;
  ram = ram;
}

-- no transfer
abbrev pub none_left : Transfer
none_left = record { source = 0; words = 0; cost = 0 }

-- whether the event of a stage is a sample of the pins; the others are accesses
abbrev pub is_sample : Stage → Bool
is_sample Sample = true
is_sample Access = false
is_sample Word = false

-- the 68000 is chip 0
unfoldable pub next_of : State68 → Next
next_of state = record { key = record { cycle = state.next; chip = 0 }; sample = is_sample state.stage }

-- a long of the cartridge, its high byte first
abbrev pub long_in : List ℕ → ℕ → ℕ
long_in image at =
    slice_index image at * 0x100_0000 + slice_index image (at + 1) * 0x1_0000 + slice_index image (at + 2) * 0x100 + slice_index image (at + 3)

-- at power-on: the supervisor's stack pointer and the program counter from the first two longs, SR
-- 2700h, all else 0
unfoldable pub power_on : List ℕ → State68
power_on image = record {
  next = 0;
  stage = Sample;
  start = 0;
  regs = record {
    d = replicate 8 0;
    a = replicate 7 0;
    usp = 0;
    ssp = long_in image 0;
    pc = long_in image 4;
    sr = 0x2700;
  };
  stopped = false;
  trace = false;
  halted = None;
  cause = 0;
  answers = [];
  transfer = none_left;
  ram = replicate ram_size 0;
}
