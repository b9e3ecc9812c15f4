-- What holds of the words of two players and of the outcomes of their scripts.
use Rattle.std.specs.Prelude.{◌≡◌, ◌≢◌, ℕ, ◌≤◌, List}
use Rattle.md_chips.specs.Machines.{MachineValue}
use Rattle.md_rollback.specs.Inputs.{IsConfirmed, IsExpected, IsMore, Words, expected, expected_frames}
use Rattle.md_rollback.specs.Played.{IsMachineOf}
use Rattle.md_rollback.specs.Rolls.{CompletesWith}
use Rattle.md_rollback.specs.declared.rolled.Completion.{Completion}
use Rattle.md_rollback.specs.declared.rolled.Completion.TheVariants.{NoMemory}

pub record RollbackLaws : Type 0 where
  -- a script has one outcome alone, where memory suffices
  pub one : (cart : List ℕ) (window : ℕ) (text : List ℕ) (first second : Completion) → CompletesWith cart window text first → CompletesWith cart window text second
      → first ≢ NoMemory → second ≢ NoMemory → first ≡ second
  -- the expected word of a frame is its own, or that of the latest frame before it whose word was given, or 0
  pub latest : (words : Words) (f : ℕ) → IsExpected words f (expected words f)
  -- of confirmed frames the machine is that of all words that are ever given, whatever comes beyond them
  pub confirmed : (cart : List ℕ) (local remote more_local more_remote : Words) (confirmed frames : ℕ) (machine : MachineValue) → IsConfirmed local remote confirmed → frames ≤ confirmed
      → IsMore local more_local → IsMore remote more_remote
      → IsMachineOf cart (expected_frames local remote frames) frames machine → IsMachineOf cart (expected_frames more_local more_remote frames) frames machine
