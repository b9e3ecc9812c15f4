-- The Z80 between two of its events.
-- Zilog UM0080, "CPU Register"; the events and the bus request are this project's profile.
use Rattle.std.specs.Prelude.{ℕ, Bool, true, false, List, [], Option, Some, option_map}
use Rattle.md_word.specs.declared.event.Next.{Next}
use Rattle.md_word.specs.declared.sub_bus.Parcel.{Parcel}
use Rattle.z80_parcel.specs.Parcels as parcels
use Rattle.z80_parcel.specs.Parcels.{Store, store_of}
use Rattle.z80_decode.specs.declared.interrupt_mode.InterruptMode.TheVariants.{Mode0}
use Rattle.z80_exec.specs.declared.regs80.Regs80.{Regs80}
use Rattle.z80_chip.specs.declared.sequencer.Sequencer.{Sequencer}
use Rattle.z80_chip.specs.declared.stage.Stage.{Stage}
use Rattle.z80_chip.specs.declared.stage.Stage.TheVariants.{Sample, Access, Yield, Take}

-- the processor, its RAM, and its place among its events; cycles are master cycles
pub record State80 : Type 0 where
  -- the cycle of the next event, and what it is
  pub next : ℕ
  pub stage : Stage
  -- the cycle of the last sample at an access, a yield or a take; else `next`
  pub start : ℕ
  pub regs : Regs80
  pub halted : Bool
  -- the last instruction was EI
  pub after_ei : Bool
  -- how many resets it has seen
  pub resets : ℕ
  -- at an access: what is carried out, 0 for an instruction and 1 for an interrupt; and what its
  -- shared accesses have answered
  pub cause : ℕ
  pub answers : List ℕ
  -- RAM and bank register, where the Z80 has them
  pub store : Option Store

-- the state whose parts are these
abbrev pub state_of : Sequencer → Option Parcel → State80
state_of sequencer parcel = record {
  next = sequencer.next;
  stage = sequencer.stage;
  start = sequencer.start;
  regs = sequencer.regs;
  halted = sequencer.halted;
  after_ei = sequencer.after_ei;
  resets = sequencer.resets;
  cause = sequencer.cause;
  answers = sequencer.answers.items;
  store = option_map store_of parcel;
}

-- whether the event of a stage is a sample of the pins; the others are accesses
abbrev pub is_sample : Stage → Bool
is_sample Sample = true
is_sample Access = false
is_sample Yield = false
is_sample Take = false

-- the Z80 is chip 1
unfoldable pub next_of : State80 → Next
next_of state = record { key = record { cycle = state.next; chip = 1 }; sample = is_sample state.stage }

-- registers of 0
abbrev pub no_regs : Regs80
no_regs = record {
  af = 0;
  bc = 0;
  de = 0;
  hl = 0;
  af2 = 0;
  bc2 = 0;
  de2 = 0;
  hl2 = 0;
  ix = 0;
  iy = 0;
  sp = 0;
  pc = 0;
  i = 0;
  r = 0;
  iff1 = false;
  iff2 = false;
  mode = Mode0;
}

-- at power-on all is 0, and the Z80 has its RAM
unfoldable pub power_on : State80
power_on = record {
  next = 0;
  stage = Sample;
  start = 0;
  regs = no_regs;
  halted = false;
  after_ei = false;
  resets = 0;
  cause = 0;
  answers = [];
  store = Some parcels.first;
}
