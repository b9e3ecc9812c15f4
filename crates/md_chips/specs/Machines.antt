-- The machine as contracts see it.
use Rattle.std.specs.Prelude.{ℕ, ◌≤◌, false, List, [], Option, IsSome, unwrap_or}
use Rattle.md_word.specs.declared.event.Entry.{Entry}
use Rattle.md_word.specs.declared.key.Key.{Key}
use Rattle.chip_core.specs.Cores.{CoreValue, IsCore, machine_of}
use Rattle.chip_core.specs.Machines as machines
use Rattle.chip_core.specs.Machines.{Machine}
use Rattle.md_chips.specs.Console.{Console}
use Rattle.md_pads.specs.Recording.{no_frames}
use Rattle.bus_shared.specs.Board.{Board, IsBoard, power_on}
use Rattle.md_chips.specs.Refinement.{console_of, renderer_of, fm_of, psg_of}
use Rattle.md_chips.specs.Regions.{IsOneRegion, most_entries}
use Rattle.md_chips.specs.Lines.{frames_of}
use Rattle.md_chips.specs.Media.{Media}
use Rattle.md_chips.specs.Rules.{IsChip, five}
use Rattle.md_chips.specs.declared.chips.Chip.{Chip}

-- the cycle to which the machine was brought, its record, and what was made since it was last
-- drained: the journal's entries, the frames, and the samples of the sound chips
pub record MachineValue : Type 0 where
  pub at : ℕ
  pub console : Console
  pub entries : List Entry
  pub media : Media

-- the core of these parts
abbrev pub core_in : Board → List Chip → List Key → List Entry → ℕ → CoreValue Chip Board
core_in board chips bounds entries room = record { shared = board; chips = chips; bounds = bounds; journal = entries; room = room }

-- the core that a machine has; an empty one stands in for it while it runs
abbrev pub core_held : Option (CoreValue Chip Board) → CoreValue Chip Board
core_held core = unwrap_or core (core_in (power_on no_frames false) [] [] [] 0)

-- the frames and samples that a machine of five chips keeps
abbrev pub kept_in : Machine Chip Board → Media
kept_in m = record { frames = frames_of (renderer_of (m.chip 2)).chip.frame; sides = (fm_of (m.chip 3)).samples; levels = (psg_of (m.chip 4)).samples }

-- the machine of a core that was brought to a cycle
abbrev pub machine_at : ℕ → CoreValue Chip Board → MachineValue
machine_at at core = record {
  at = at;
  console = console_of (machine_of five core);
  entries = core.journal;
  media = kept_in (machine_of five core);
}

-- what holds of each machine: it is of one region, and has room for the entries of a segment, and no
-- event is below its cycle
pub record IsMachine (at : ℕ) (core : Option (CoreValue Chip Board)) : Type 0 where
  pub has_core : IsSome core
  pub valid : IsCore five IsChip IsBoard (core_held core)
  pub region : IsOneRegion (console_of (machine_of five (core_held core)))
  pub room : most_entries (console_of (machine_of five (core_held core))).pal ≤ (core_held core).room
  pub quiet : machines.IsQuiet five (machine_of five (core_held core)) at
