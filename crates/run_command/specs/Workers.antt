-- What whoever makes the segments of a run does to the machine.
use Rattle.std.specs.Prelude.{◌≡◌, ℕ, ◌+◌, ◌<◌, ◌≤◌, [], length}
use Rattle.md_chips.specs.Console.{IsRunTo}
use Rattle.md_chips.specs.Machines.{MachineValue}
use Rattle.md_chips.specs.Media.{no_media}
use Rattle.md_chips.specs.Regions.{most_entries, most_pairs}
use Rattle.md_word.specs.Clock.{last_cycle}
use Rattle.run_command.specs.Limits.{segment_cycles}

-- the machine may be brought to the cycle: it is drained, and the cycle lies at most a segment on
pub record CanGoOn (machine : MachineValue) (to : ℕ) : Type 0 where
  pub later : machine.at < to
  pub near : to ≤ machine.at + segment_cycles machine.console.pal
  pub far : to ≤ last_cycle
  pub entries : machine.entries ≡ []
  pub media : machine.media ≡ no_media

-- the machine was brought there: all events below the cycle are done and no other, with their records
pub record WentOn (old : MachineValue) (to : ℕ) (new : MachineValue) : Type 0 where
  pub at : new.at ≡ to
  pub run : IsRunTo old.console to new.console new.entries new.media
  pub entries : length new.entries ≤ most_entries old.console.pal
  pub frames : length new.media.frames ≤ 1
  pub samples : length new.media.levels ≤ most_pairs old.console.pal
