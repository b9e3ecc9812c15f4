-- A line of a script is not obeyed.
use Rattle.std.proofs.Common.{◌≡◌, ℕ, ◌+◌, List, ◌∷◌, length, Option, Some, None}
use Rattle.debug_text.specs.Scripts.{ObeysFirst, script_outcome_at}
use Rattle.md_rollback.specs.declared.input_fault.InputFault.{InputFault}
use Rattle.md_rollback.specs.declared.input_fault.InputFault.TheVariants as inputs
use Rattle.md_rollback.specs.Lines.{line_of}
use Rattle.md_rollback.specs.declared.line.Line.TheVariants.{Press}
use Rattle.md_rollback.specs.declared.line.Player.{Player}
use Rattle.md_rollback.specs.Scripts.{IsFault, IsRefused, IsRefusedInput, ObeysLine, Plays, Script, fault_of}
use Rattle.md_rollback.specs.declared.line_fault.LineFault.{LineFault}

-- a line is not obeyed
pub plays_stopped : (window : ℕ) (lines before after : List (List ℕ)) (line : List ℕ) (old new : Script) (number : ℕ) (fault : Option LineFault)
    → ObeysFirst (ObeysLine window) lines before (line ∷ after) old new → number ≡ length before + 1 → IsFault window new line fault → Plays window lines old new (script_outcome_at number fault)
plays_stopped window lines before after line old new number (Some fault) so_far is refused = (before, line, after, so_far, is, refused)
plays_stopped window lines before after line old new number None so_far is refused = (before, line ∷ after, so_far)

-- buttons that are refused
pub input_refused : (window : ℕ) (script : Script) (line : List ℕ) (player : Player) (frame buttons : ℕ) (fault : InputFault) → line_of line ≡ Some (Press player frame buttons)
    → IsRefusedInput script player frame buttons fault → IsRefused window script line (fault_of fault)
input_refused window script line player frame buttons (inputs.Far last) is far = (player, frame, buttons, is, far)
input_refused window script line player frame buttons (inputs.Given kept) is given = (player, frame, buttons, kept, is, given)
input_refused window script line player frame buttons inputs.Buttons is refused = (player, frame, buttons, is, refused.0, refused.1, refused.2)
