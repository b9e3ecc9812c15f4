-- A machine with another recording of the pads.
use Rattle.std.proofs.Common.{◌≡◌, ℕ, refl, sym, ap, subst, Some}
use Rattle.md_pads.specs.Recording.{Recorded}
use Rattle.chip_core.specs.Cores.{CoreValue, IsCore}
use Rattle.bus_shared.specs.Board.{Board, IsBoard}
use Rattle.md_chips.specs.Machines.{IsMachine, MachineValue, machine_at}
use Rattle.md_chips.specs.Refinement.{console_of}
use Rattle.md_chips.specs.Rules.{IsChip, five}
use Rattle.md_chips.specs.declared.chips.Chip.{Chip}

-- the core with it
abbrev pub with_other : Recorded → CoreValue Chip Board → CoreValue Chip Board
with_other recording core = record core { shared = record core.shared { recording = recording } }

-- the machine with it
abbrev pub machine_with : Recorded → MachineValue → MachineValue
machine_with recording m = record m { console = record m.console { shared = record m.console.shared { recording = recording } } }

pub value-with : (at : ℕ) (recording : Recorded) (core new : CoreValue Chip Board) → new ≡ with_other recording core → machine_at at new ≡ machine_with recording (machine_at at core)
unfolding console_of
value-with at recording core new same = ap (machine_at at) same

still : (at : ℕ) (recording : Recorded) (core : CoreValue Chip Board) → IsMachine at (Some core) → IsCore five IsChip IsBoard (with_other recording core) → IsMachine at (Some (with_other recording core))
unfolding console_of
still at recording core is valid = record {
  has_core = refl;
  valid = valid;
  region = is.region;
  room = is.room;
  quiet = is.quiet;
}

-- what holds of a machine holds of it with another recording
pub machine-still : (at : ℕ) (recording : Recorded) (core new : CoreValue Chip Board) → IsMachine at (Some core) → new ≡ with_other recording core → IsCore five IsChip IsBoard new → IsMachine at (Some new)
machine-still at recording core new is same valid =
    subst (λ (v : CoreValue Chip Board). IsMachine at (Some v)) (sym same)
    (still at recording core is (subst (IsCore five IsChip IsBoard) same valid))
