-- The outcome of a script.
use Rattle.std.proofs.Common.{◌≡◌, ◌∙◌, refl, sym, ap, subst, false, ℕ, ◌*◌, List, []}
use Rattle.sha2.specs.Sha256.{sha256}
use Rattle.md_pads.specs.Recording.{no_frames}
use Rattle.md_word.specs.Clock.{frame}
use Rattle.md_chips.specs.Console.{power_on}
use Rattle.md_chips.specs.Media.{no_media}
use Rattle.save_state.specs.States.{kept_bytes, state_bytes}
use Rattle.text_lines.specs.Lines.{lines_of}
use Rattle.md_rollback.specs.Inputs.{IsConfirmed, no_words}
use Rattle.md_rollback.proofs.Expected.{no-words-known}
use Rattle.md_rollback.specs.Sessions.{SessionValue}
use Rattle.md_rollback.proofs.Replayed.{first-machine}
use Rattle.md_rollback.specs.Following.{Follows}
use Rattle.md_rollback.specs.Scripts.{Plays, Script, begun}
use Rattle.md_rollback.specs.declared.line_fault.LineFault.{LineFault}
use Rattle.debug_text.specs.declared.outcome.ScriptOutcome.{ScriptOutcome}
use Rattle.debug_text.specs.declared.outcome.ScriptOutcome.TheVariants as script_outcomes
use Rattle.md_rollback.specs.Rolls.{CompletesWith, IsDigestOf, IsRolled}
use Rattle.md_rollback.specs.declared.rolled.Completion.TheVariants.{Done, Refused}
use Rattle.md_rollback.specs.declared.rolled.Rolled.{Rolled}

-- the session at power-on
abbrev pub opened : List ℕ → ℕ → SessionValue
opened cart window = record { window = window; local = no_words; remote = no_words; confirmed = 0; frames = 0; machine = record { at = 0; console = power_on cart no_frames false; entries = []; media = no_media } }

-- it follows a script without lines
first-follows : (cart : List ℕ) (window : ℕ) (session : SessionValue) → session ≡ opened cart window → Follows cart session begun
first-follows cart window session is =
    subst (λ (s : SessionValue). Follows cart s begun) (sym is) (record {
      local_is = refl;
      remote_is = refl;
      frames_are = refl;
      confirmed_is = no-words-known.confirmed_is;
      cart_is = refl;
      machine_is = first-machine cart;
    })

-- the digest of the machine is that of the state that a run saves
digest-of : (cart : List ℕ) (session : SessionValue) (script : Script) (digest : List ℕ) → Follows cart session script
    → digest ≡ sha256 (state_bytes session.machine.at session.machine.console) → IsDigestOf cart script digest
digest-of cart session script digest follows is =
    let at : session.machine.at ≡ frame * script.frames = follows.machine_is.at in
    let run = follows.machine_is.run in
    record {
      last = run.last;
      entries = run.entries;
      output = run.output;
      run = run.run;
      digest_is = is ∙ ap sha256 (ap (λ (n : ℕ). state_bytes n session.machine.console) at ∙ ap (kept_bytes (frame * script.frames)) run.same);
    }

-- what the lines of a script make of a session
abbrev pub GoesBy : List ℕ → SessionValue → SessionValue → ScriptOutcome LineFault → Type 0
GoesBy text old new script_outcome =
    (cart : List ℕ) (script : Script) → Follows cart old script → (after : Script) × Plays old.window (lines_of text) script after script_outcome × Follows cart new after

pub done-completion : (cart : List ℕ) (window : ℕ) (text : List ℕ) (old new : SessionValue) (rolled : Rolled) → old ≡ opened cart window → GoesBy text old new script_outcomes.Obeyed
    → IsRolled new rolled → CompletesWith cart window text (Done rolled)
done-completion cart window text old new rolled first goes is =
    let went = goes cart begun (first-follows cart window old first) in (
      went.0,
      subst (λ (n : ℕ). Plays n (lines_of text) begun went.0 script_outcomes.Obeyed) (ap (λ (s : SessionValue). s.window) first) went.1,
      is.frames ∙ went.2.frames_are,
      subst (IsConfirmed went.0.local went.0.remote) (sym is.confirmed) went.2.confirmed_is,
      digest-of cart new went.0 rolled.digest went.2 is.digest,
    )

pub refused-completion : (cart : List ℕ) (window : ℕ) (text : List ℕ) (old new : SessionValue) (line : ℕ) (fault : LineFault) → old ≡ opened cart window
    → GoesBy text old new (script_outcomes.Refused line fault) → CompletesWith cart window text (Refused line fault)
refused-completion cart window text old new line fault first goes =
    let went = goes cart begun (first-follows cart window old first) in (
      went.0,
      subst (λ (n : ℕ). Plays n (lines_of text) begun went.0 (script_outcomes.Refused line fault)) (ap (λ (s : SessionValue). s.window) first) went.1,
    )
