-- The outcome of a script with a cartridge, from power-on of NTSC on. This project's profile.
use Rattle.std.specs.Prelude.{◌≡◌, ℕ, ◌*◌, false, List}
use Rattle.sha2.specs.Sha256.{sha256}
use Rattle.md_word.specs.Clock.{frame}
use Rattle.md_word.specs.declared.event.Entry.{Entry}
use Rattle.md_pads.specs.Recording.{recording_of}
use Rattle.md_chips.specs.Console.{Console, IsRunTo, power_on}
use Rattle.md_chips.specs.Media.{Media}
use Rattle.save_state.specs.States.{state_bytes}
use Rattle.text_lines.specs.Lines.{lines_of}
use Rattle.md_rollback.specs.Inputs.{IsConfirmed}
use Rattle.md_rollback.specs.Sessions.{SessionValue}
use Rattle.md_rollback.specs.Scripts.{Plays, Script, begun}
use Rattle.debug_text.specs.declared.outcome.ScriptOutcome.TheVariants as script_outcomes
use Rattle.md_rollback.specs.declared.rolled.Completion.{Completion}
use Rattle.md_rollback.specs.declared.rolled.Completion.TheVariants.{Done, Refused, NoMemory}
use Rattle.md_rollback.specs.declared.rolled.Rolled.{Rolled}

-- the digest is that of the state that a run from power-on saves at a cycle, with these words on the pads
pub record IsDigestOf (cart : List ℕ) (script : Script) (digest : List ℕ) : Type 0 where
  pub last : Console
  pub entries : List Entry
  pub output : Media
  pub run : IsRunTo (power_on cart (recording_of script.played) false) (frame * script.frames) last entries output
  pub digest_is : digest ≡ sha256 (state_bytes (frame * script.frames) last)

-- what is reported of a session
pub record IsRolled (session : SessionValue) (rolled : Rolled) : Type 0 where
  pub frames : rolled.frames ≡ session.frames
  pub confirmed : rolled.confirmed ≡ session.confirmed
  pub digest : rolled.digest ≡ sha256 (state_bytes session.machine.at session.machine.console)

-- the outcome of a script: all lines were obeyed, with how many frames were made, how many are confirmed, and
-- the digest of the state; or its first refused line
abbrev pub CompletesWith : List ℕ → ℕ → List ℕ → Completion → Type 0
CompletesWith cart window text (Done rolled) =
    (script : Script) × Plays window (lines_of text) begun script script_outcomes.Obeyed × (rolled.frames ≡ script.frames)
    × IsConfirmed script.local script.remote rolled.confirmed × IsDigestOf cart script rolled.digest
CompletesWith cart window text (Refused line fault) = (script : Script) × Plays window (lines_of text) begun script (script_outcomes.Refused line fault)
CompletesWith cart window text NoMemory = Unit {0}
