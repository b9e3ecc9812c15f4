-- What holds of the debugger's machine between commands.
use Rattle.std.specs.Prelude.{◌≡◌, ℕ, ◌≤◌, List, [], ◌++◌, length}
use Rattle.md_chips.specs.Media.{no_media}
use Rattle.md_chips.specs.Starts.{IsStart}
use Rattle.md_debug.specs.Going.{GoesTo, latest, most_begun, start_of}
use Rattle.md_debug.specs.declared.debuggee.Debuggee.{Debuggee}

-- the machine is where a run may begin and holds no output, and there is room for the instructions that are
-- remembered
pub record IsDebuggee (d : Debuggee) : Type 0 where
  pub start : IsStart (start_of d.machine)
  pub entries : d.machine.entries ≡ []
  pub media : d.machine.media ≡ no_media
  pub most : d.begun.capacity ≡ most_begun
  pub few : length d.begun.items ≤ most_begun

-- all events below a cycle are done, and the instructions that they begin are remembered
pub record WentOn (old : Debuggee) (end : ℕ) (new : Debuggee) : Type 0 where
  pub at : new.machine.at ≡ end
  pub begun : List ℕ
  pub goes : GoesTo old.machine.console end new.machine.console begun
  pub remembered : new.begun.items ≡ latest (old.begun.items ++ begun)
  pub ready : IsDebuggee new
