-- What holds of each machine that a run reaches, from power-on and from a saved state.
use Rattle.std.specs.Prelude.{ℕ}
use Rattle.md_chips.specs.Console.{Console}
use Rattle.md_chips.specs.ValidParts.{HasValidParts}
use Rattle.md_chips.specs.Starts.{IsStart}
use Rattle.machine_laws.specs.BoardLines.{HasLines}
use Rattle.machine_laws.specs.Processors.{HasProcessors}
use Rattle.machine_laws.specs.Timers.{HasTimers}
use Rattle.machine_laws.specs.Video.{HasVideo}
use Rattle.machine_laws.specs.Writes.{HasWrites}

-- at a cycle below which no event is: its parts are valid and have their rules there
pub record IsReached (at : ℕ) (m : Console) : Type 0 where
  pub start : IsStart (record { at = at; console = m })
  pub parts : HasValidParts m
  pub processors : HasProcessors at m
  pub video : HasVideo at m
  pub lines : HasLines at m
  pub writes : HasWrites at m
  pub timers : HasTimers at m
