-- Where lists of enabled events of the five chips lead, in whatever order they come. Time stamps after
-- Chandy and Misra.
use Rattle.std.specs.Prelude.{◌≡◌, ◌⊎◌, ℕ, ◌+◌, ◌-◌, ◌≤◌, List, [], ◌∷◌, ◌++◌, length}
use Rattle.md_word.specs.Clock.{last_cycle}
use Rattle.md_word.specs.Region.{frame_cycles}
use Rattle.md_word.specs.declared.event.Entry.{Entry}
use Rattle.bus_shared.specs.Board.{Board}
use Rattle.chip_core.specs.declared.event.Event.{Event}
use Rattle.chip_core.specs.Cores.{seen}
use Rattle.chip_core.specs.Events.{IsEnabled, Leads, Seen}
use Rattle.chip_core.specs.Limits.{events_within}
use Rattle.chip_core.specs.Machines as machines
use Rattle.md_chips.specs.Console.{Console, IsRunTo}
use Rattle.md_chips.specs.Cores.{core_of}
use Rattle.md_chips.specs.Drained.{emptied}
use Rattle.md_chips.specs.Machines.{kept_in}
use Rattle.md_chips.specs.Media.{Media, joined, no_media}
use Rattle.md_chips.specs.Refinement.{console_of}
use Rattle.md_chips.specs.Rules.{five}
use Rattle.md_chips.specs.declared.chips.Chip.{Chip}

-- a list of enabled events below a cycle: it is no longer than what can be there. It gets stuck nowhere,
-- since some event is enabled until none is below the cycle. Then it has led to the machine of the run,
-- with its journal
pub record EndsAsRun (start : Console) (from to : ℕ) (list : List Event) (z : Seen Chip Board) : Type 0 where
  pub few : length list ≤ events_within five (to - from)
  pub goes_on : machines.IsQuiet five z.machine to ⊎ ((event : Event) × IsEnabled five z to event)
  pub there : machines.IsQuiet five z.machine to → (output : Media) × IsRunTo start to (console_of z.machine) z.journal output

-- every list of enabled events of the core ends so, to whatever cycle
abbrev pub EachEndsAsRun : Console → ℕ → Seen Chip Board → Type 0
EachEndsAsRun start from core =
    (to : ℕ) (list : List Event) (z : Seen Chip Board) → to ≤ last_cycle → Leads five to core list z → EndsAsRun start from to list z

-- ---- segment after segment: the chips keep a frame, and the samples of a frame

-- where a run is between two segments: the cycle, the core, and what was drained up to there
pub record Between : Type 0 where
  pub at : ℕ
  pub core : Seen Chip Board
  pub entries : List Entry
  pub media : Media

-- before the first
abbrev pub begun : ℕ → Console → Between
begun at start = record { at = at; core = seen five (core_of start); entries = []; media = no_media }

-- a segment: its end, the events of the core in the order in which they come, and the core to which they lead
pub record Segment : Type 0 where
  pub to : ℕ
  pub events : List Event
  pub core : Seen Chip Board

-- it has the cycles of a frame at most, each event is enabled at its turn, and none is below its end
-- any more
pub record IsSegment (before : Between) (segment : Segment) : Type 0 where
  pub later : before.at ≤ segment.to
  pub near : segment.to ≤ before.at + frame_cycles (console_of before.core.machine).pal
  pub far : segment.to ≤ last_cycle
  pub leads : Leads five segment.to before.core segment.events segment.core
  pub ended : machines.IsQuiet five segment.core.machine segment.to

-- the core without its journal, its frame and its samples
abbrev pub drained : Seen Chip Board → Seen Chip Board
drained z = record { machine = record { shared = z.machine.shared; chip = λ i. emptied (z.machine.chip i) }; bound = z.bound; journal = [] }

-- after a segment, when what its core keeps is drained
abbrev pub following : Between → Segment → Between
following before segment = record {
  at = segment.to;
  core = drained segment.core;
  entries = before.entries ++ segment.core.journal;
  media = joined before.media (kept_in segment.core.machine);
}

-- segments one after the other
abbrev pub AreSegments : Between → List Segment → Between → Type 0
AreSegments before [] after = after ≡ before
AreSegments before (segment ∷ later) after = IsSegment before segment × AreSegments (following before segment) later after

-- what was drained up to there is what the run makes, and the core has reached its machine; from there on
-- every list ends as the run again
pub record GoesAsRun (start : Console) (there : Between) : Type 0 where
  pub made : IsRunTo start there.at (console_of there.core.machine) there.entries there.media
  pub each : EachEndsAsRun (console_of there.core.machine) there.at there.core

-- EVERY LEGAL SCHEDULE from a machine: all lists of its core end as the run, to whatever cycle; and in
-- segments, whatever the lists of each, the frames and samples too are the run's
pub record ListsEndAsRun (at : ℕ) (start : Console) : Type 0 where
  pub each : EachEndsAsRun start at (seen five (core_of start))
  pub segments : (list : List Segment) (there : Between) → AreSegments (begun at start) list there → GoesAsRun start there
