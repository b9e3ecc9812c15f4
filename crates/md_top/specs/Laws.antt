-- What holds of the definitions that the answers of the program cite, whatever it is asked for.
use Rattle.std.specs.Prelude.{◌≡◌, ℕ, Bool, ◌*◌, ◌-◌, List, length}
use Rattle.md_word.specs.declared.event.Entry.{Entry}
use Rattle.md_pads.specs.Recording.{Recorded}
use Rattle.md_chips.specs.Console.{Console, IsRunTo, power_on, ran}
use Rattle.md_chips.specs.Media.{Media}
use Rattle.md_chips.specs.Pads.{ShowsPads}
use Rattle.md_chips.specs.Starts.{IsStart, Start, batches_below, frames_below}
use Rattle.md_debug.specs.Laws.{DebugLaws}
use Rattle.md_rollback.specs.Laws.{RollbackLaws}

pub record ProgramLaws : Type 0 where
  -- from power-on, whatever was moved, the pads show the recording's words of the frame whose line after the picture
  -- began last
  pub pads : (cart : List ℕ) (recording : Recorded) (pal : Bool) (moves : ℕ) → ShowsPads pal recording (ran (power_on cart recording pal) moves)
  -- a run makes a frame for each start of that line, and 16 levels for each multiple of 16,128, from its start to its end
  pub frames : (start : Start) (z : Console) (end : ℕ) (entries : List Entry) (output : Media) → IsStart start
      → IsRunTo start.console end z entries output → length output.frames ≡ frames_below start.console.pal end - frames_below start.console.pal start.at
  pub levels : (start : Start) (z : Console) (end : ℕ) (entries : List Entry) (output : Media) → IsStart start
      → IsRunTo start.console end z entries output → length output.levels ≡ 16 * (batches_below end - batches_below start.at)
  -- scripts of the debugger and of two players
  pub debug : DebugLaws
  pub rollback : RollbackLaws
