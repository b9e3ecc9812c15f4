-- What is heard of a run from power-on.
use Rattle.std.specs.Prelude.{◌≡◌, ℕ, ◌≤◌, List}
use Rattle.md_word.specs.Clock.{cycle_limit}
use Rattle.md_word.specs.declared.event.Entry.{Entry}
use Rattle.md_chips.specs.Console.{Console, IsRunTo}
use Rattle.md_chips.specs.Media.{Media}
use Rattle.md_chips.specs.Starts.{Start}
use Rattle.machine_laws.specs.Heard.{HearsLevels, HearsSides}
use Rattle.run_command.specs.Runs.{entries_from, media_from, powered_on}
use Rattle.run_command.specs.declared.inputs.Inputs.{Inputs}

-- the samples of a run to a cycle are those of the sound generator and of the FM chip over the writes, and
-- the resets, that stand in its entries
abbrev pub HearsWrites : ℕ → List Entry → Media → Type 0
HearsWrites end entries output = HearsLevels end entries output.levels × HearsSides end entries output.sides

-- so it is in all runs from a start that is power-on
abbrev pub HearsRuns : Start → Type 0
HearsRuns start =
    (inputs : Inputs) (console : Console) (end : ℕ) (entries : List Entry) (output : Media) → start ≡ powered_on inputs
    → end ≤ cycle_limit → IsRunTo start.console end console entries output → HearsWrites end entries output

-- and in the run to a cycle, of which the outputs are made
abbrev pub IsHeard : Start → ℕ → Type 0
IsHeard start end = (inputs : Inputs) → start ≡ powered_on inputs → HearsWrites end (entries_from start end) (media_from start end)
