-- A session of two players: what its outcome says.
use Rattle.std.proofs.Common.{◌≡◌, ◌≢◌, ◌⊎◌, inl, inr, ℕ, ◌<◌, ◌≤◌, List, [], length, Option, Some, None, refl, sym, ap, ◌∙◌}
use Rattle.std.specs.Prelude.{IsSomeAnd, unwrap_or}
use Rattle.md_outer.specs.Outside.{DepotState, Files, Rose}
use Rattle.md_args.specs.Words.{Rollback, Rolling}
use Rattle.md_args.specs.declared.files.Input.TheVariants.{Script}
use Rattle.md_rollback.specs.declared.line_fault.LineFault.{LineFault}
use Rattle.md_rollback.specs.Rolls.{CompletesWith}
use Rattle.md_rollback.specs.declared.rolled.Completion.{Completion}
use Rattle.md_rollback.specs.declared.rolled.Completion.TheVariants as completion
use Rattle.md_rollback.specs.declared.rolled.Rolled.{Rolled}
use Rattle.md_rollback.proofs.Outcomes.{done_or_refused}
use Rattle.md_top.specs.CommandOutcomes.{status_of}
use Rattle.md_top.specs.Refusals.{inputs_command_outcome, roll_command_outcome}
use Rattle.md_top.specs.Inputs.{CartCause, cart_of}
use Rattle.md_top.specs.Rollings.{CanRoll, IsRollFound, IsRolledTo, RollEnds, completion_outcome, inputs_limit}
use Rattle.md_top.specs.declared.command_outcome.CommandOutcome.{CommandOutcome}
use Rattle.md_top.specs.declared.command_outcome.CommandOutcome.TheVariants.{LineRefused, ReadFault, RolledBack, TooLong}
use Rattle.md_top.proofs.Right.{read_long, read_missing, read_within, right_accepted}
use Rattle.md_top.proofs.RunsRight.{cart_always, cart_there, file_there, file_within}
use Rattle.md_top.proofs.Statuses.{Says, cart_says, missing}

-- what the outcomes of a session say
pub roll_says : (observable : Type 0) (words : Rolling) (old new : DepotState) (command_outcome : CommandOutcome) → RollEnds observable words old new command_outcome → Says observable (Rollback words) old new command_outcome
roll_says observable words old new (RolledBack rolled) cause = tt
roll_says observable words old new (LineRefused line fault) cause = (line, fault, cause)
roll_says observable words old new (ReadFault Script) cause = missing observable (Rollback words) old.files (λ none. (Script, none)) cause.1
roll_says observable words old new (TooLong Script) cause = tt
roll_says observable words old new other cause = cart_says observable (Rollback words) words.rom old new other refl cause

-- ---- without a fault

-- what a session results in depends on what its lines result in, or not
abbrev pub IsRollRight : Rolling → Files → ℕ → Type 0
IsRollRight words files status =
    (outcome : Completion)
    × (IsRollFound (Some words) files outcome ⊎ ((other : Completion) → roll_command_outcome words files other ≡ roll_command_outcome words files outcome))
    × (status ≡ status_of (roll_command_outcome words files outcome))

-- it does not
roll_without : (words : Rolling) (files : Files) (right command_outcome : CommandOutcome) → ((outcome : Completion) → roll_command_outcome words files outcome ≡ right) → status_of command_outcome ≡ status_of right
    → IsRollRight words files (status_of command_outcome)
roll_without words files right command_outcome always is =
    (completion.NoMemory, inr (λ other. always other ∙ sym (always completion.NoMemory)), is ∙ sym (ap status_of (always completion.NoMemory)))

inputs_missing : (file : Option (List ℕ)) (outcome : Completion) → file ≡ None → inputs_command_outcome file outcome ≡ ReadFault Script
inputs_missing file outcome none = read_missing Script inputs_limit file (λ bytes. completion_outcome outcome) none

inputs_long : (file : Option (List ℕ)) (outcome : Completion) → IsSomeAnd file (λ bytes. inputs_limit < length bytes) → inputs_command_outcome file outcome ≡ TooLong Script
inputs_long file outcome long = read_long Script inputs_limit file (λ bytes. completion_outcome outcome) long

-- the lines that are obeyed
inputs_obeyed : (file : Option (List ℕ)) (cart : List ℕ) (window : ℕ) (outcome : Completion) → IsSomeAnd file (λ inputs. (length inputs ≤ inputs_limit) × CompletesWith cart window inputs outcome)
    → (inputs_command_outcome file outcome ≡ completion_outcome outcome) × CompletesWith cart window (unwrap_or file []) outcome
inputs_obeyed None cart window outcome obeyed = absurd obeyed
inputs_obeyed (Some bytes) cart window outcome (within, is) =
    (read_within Script inputs_limit bytes (λ held. completion_outcome outcome) within, is)

roll_to : (words : Rolling) (files : Files) (outcome : Completion) → IsRolledTo words files outcome → roll_command_outcome words files outcome ≡ completion_outcome outcome
roll_to words files outcome (accepted, obeyed) =
    right_accepted (files words.rom) _ accepted ∙ (inputs_obeyed (files words.inputs) (cart_of words.rom files) words.window outcome obeyed).0

roll_with : (words : Rolling) (files : Files) (outcome : Completion) → IsRolledTo words files outcome → outcome ≢ completion.NoMemory
    → IsRollRight words files (status_of (completion_outcome outcome))
roll_with words files outcome rolled memory = (
  outcome,
  inl ((inputs_obeyed (files words.inputs) (cart_of words.rom files) words.window outcome rolled.1).1, memory),
  sym (ap status_of (roll_to words files outcome rolled)),
)

not_done : (rolled : Rolled) → completion.Done rolled ≡ completion.NoMemory → ⊥
not_done rolled same = cc

not_refused : (line : ℕ) (fault : LineFault) → completion.Refused line fault ≡ completion.NoMemory → ⊥
not_refused line fault same = cc

roll_cart : (observable : Type 0) (words : Rolling) (old new : DepotState) (command_outcome : CommandOutcome) → CartCause observable words.rom old new command_outcome
    → ¬ Rose old.read_faults new.read_faults → observable → IsRollRight words old.files (status_of command_outcome) ⊎ (status_of command_outcome ≡ 10)
roll_cart observable words old new command_outcome cause clean t = elim (cart_always observable words.rom old new command_outcome cause clean t) [
  | inl always ↦ inl (roll_without words old.files always.0 command_outcome (λ outcome. always.1 (inputs_command_outcome (old.files words.inputs) outcome)) always.2)
  | inr memory ↦ inr memory
]

pub roll_right : (observable : Type 0) (words : Rolling) (old new : DepotState) (command_outcome : CommandOutcome) → RollEnds observable words old new command_outcome
    → ¬ Rose old.read_faults new.read_faults → observable → IsRollRight words old.files (status_of command_outcome) ⊎ (status_of command_outcome ≡ 10)
roll_right observable words old new (RolledBack rolled) cause clean t = inl (roll_with words old.files (completion.Done rolled) (cause t) (not_done rolled))
roll_right observable words old new (LineRefused line fault) cause clean t =
    inl (roll_with words old.files (completion.Refused line fault) (cause t) (not_refused line fault))
roll_right observable words old new (ReadFault Script) (accepted, inl rose) clean t = absurd (clean rose)
roll_right observable words old new (ReadFault Script) (accepted, inr missing) clean t =
    inl (roll_without words old.files (ReadFault Script) (ReadFault Script)
    (λ outcome. right_accepted (old.files words.rom) _ (accepted t) ∙ inputs_missing (old.files words.inputs) outcome missing.1) refl)
roll_right observable words old new (TooLong Script) (accepted, long) clean t =
    inl (roll_without words old.files (TooLong Script) (TooLong Script)
    (λ outcome. right_accepted (old.files words.rom) _ (accepted t) ∙ inputs_long (old.files words.inputs) outcome (long t)) refl)
roll_right observable words old new other cause clean t = roll_cart observable words old new other cause clean t

-- ---- each line is obeyed

inputs_done : (file : Option (List ℕ)) (cart : List ℕ) (window : ℕ) (rolled : Rolled) (line : ℕ) (fault : LineFault)
    → IsSomeAnd file (λ inputs. (length inputs ≤ inputs_limit) × CompletesWith cart window inputs (completion.Done rolled))
    → IsSomeAnd file (λ inputs. (length inputs ≤ inputs_limit) × CompletesWith cart window inputs (completion.Refused line fault)) → ⊥
inputs_done None cart window rolled line fault all refused = all
inputs_done (Some bytes) cart window rolled line fault all refused = done_or_refused cart window bytes rolled line fault all.1 refused.1

pub roll_done : (observable : Type 0) (words : Rolling) (old new : DepotState) (command_outcome : CommandOutcome) → CanRoll words old.files → RollEnds observable words old new command_outcome
    → ¬ Rose old.read_faults new.read_faults → observable → (status_of command_outcome ≡ 0) ⊎ (status_of command_outcome ≡ 10)
roll_done observable words old new (RolledBack rolled) ready cause clean t = inl refl
roll_done observable words old new (LineRefused line fault) ready cause clean t =
    absurd (inputs_done (old.files words.inputs) (cart_of words.rom old.files) words.window ready.0 line fault ready.1.1 (cause t).1)
roll_done observable words old new (ReadFault Script) ready (accepted, inl rose) clean t = absurd (clean rose)
roll_done observable words old new (ReadFault Script) ready (accepted, inr missing) clean t = absurd (file_there (old.files words.inputs) _ ready.1.1 missing.1)
roll_done observable words old new (TooLong Script) ready (accepted, long) clean t = absurd (file_within inputs_limit (old.files words.inputs) _ ready.1.1 (long t))
roll_done observable words old new other ready cause clean t = cart_there observable words.rom old new other ready.1.0 cause clean t
