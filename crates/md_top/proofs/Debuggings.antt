-- A session of the debugger: what its outcome says.
use Rattle.std.proofs.Common.{◌≡◌, ◌≢◌, ◌⊎◌, inl, inr, ℕ, ◌<◌, ◌≤◌, List, [], ◌++◌, length, Err, Option, Some, None, refl, sym, ap, subst, ◌∙◌}
use Rattle.std.specs.Prelude.{IsSomeAnd, unwrap_or}
use Rattle.md_debug.specs.Sessions.{reply_to}
use Rattle.md_outer.specs.Outside.{DepotState, Files, Rose, SinkState}
use Rattle.md_args.specs.Words.{Debug, Debugging}
use Rattle.md_args.specs.declared.files.Input.TheVariants.{Script}
use Rattle.md_debug.specs.declared.fault.DebugFault.{DebugFault}
use Rattle.debug_text.specs.declared.outcome.ScriptOutcome.{ScriptOutcome}
use Rattle.debug_text.specs.declared.outcome.ScriptOutcome.TheVariants.{Obeyed, OutOfMemory, Refused}
use Rattle.md_debug.specs.Opened.{PlaysScript, PutsScript, StopsScript}
use Rattle.md_debug.proofs.PlayedScripts.{one_script}
use Rattle.md_top.specs.Debuggings.{CanDebug, DebugEnds, IsPlayed, IsScripted, Scripted, ShowsReplies, played_outcome, script_limit}
use Rattle.md_top.specs.CommandOutcomes.{status_of}
use Rattle.md_top.specs.Refusals.{debug_command_outcome, script_outcome}
use Rattle.md_top.specs.Inputs.{CartCause, IsAccepted, cart_of}
use Rattle.md_top.specs.declared.command_outcome.CommandOutcome.{CommandOutcome}
use Rattle.md_top.specs.declared.command_outcome.CommandOutcome.TheVariants.{Played, ReadFault, ReplyFault, ScriptMemory, ScriptRefused, TooLong}
use Rattle.md_top.proofs.Puts.{puts_on}
use Rattle.md_top.proofs.Right.{read_long, read_missing, read_within, right_accepted}
use Rattle.md_top.proofs.RunsRight.{cart_always, cart_there, file_there, file_within}
use Rattle.md_top.proofs.Statuses.{Says, cart_says, missing}

-- what the outcomes of a session say
pub debug_says : (observable : Type 0) (words : Debugging) (old new : DepotState) (command_outcome : CommandOutcome) → DebugEnds observable words old new command_outcome → Says observable (Debug words) old new command_outcome
debug_says observable words old new Played cause = tt
debug_says observable words old new (ScriptRefused line fault) cause = (cause.0, line, fault, cause.1)
debug_says observable words old new ScriptMemory cause = tt
debug_says observable words old new ReplyFault cause = tt
debug_says observable words old new (ReadFault Script) cause = missing observable (Debug words) old.files (λ none. (Script, none)) cause.1
debug_says observable words old new (TooLong Script) cause = tt
debug_says observable words old new other cause = cart_says observable (Debug words) words.rom old new other refl cause

-- ---- without a fault

-- what a session results in depends on what its script results in, or not
abbrev pub IsDebugRight : Debugging → Files → ℕ → Type 0
IsDebugRight words files status =
    (script : Scripted)
    × (IsScripted (Some words) files script ⊎ ((other : Scripted) → debug_command_outcome words files other ≡ debug_command_outcome words files script))
    × (status ≡ status_of (debug_command_outcome words files script))

nothing : Scripted
nothing = record { replies = []; command_outcome = Obeyed }

-- it does not
debug_without : (words : Debugging) (files : Files) (right command_outcome : CommandOutcome) → ((script : Scripted) → debug_command_outcome words files script ≡ right) → status_of command_outcome ≡ status_of right
    → IsDebugRight words files (status_of command_outcome)
debug_without words files right command_outcome always is =
    (nothing, inr (λ other. always other ∙ sym (always nothing)), is ∙ sym (ap status_of (always nothing)))

script_missing : (file : Option (List ℕ)) (script : Scripted) → file ≡ None → script_outcome file script ≡ ReadFault Script
script_missing file script none = read_missing Script script_limit file (λ bytes. played_outcome script.command_outcome) none

script_long : (file : Option (List ℕ)) (script : Scripted) → IsSomeAnd file (λ bytes. script_limit < length bytes) → script_outcome file script ≡ TooLong Script
script_long file script long = read_long Script script_limit file (λ bytes. played_outcome script.command_outcome) long

-- the script that is played
script_played : (file : Option (List ℕ)) (cart replies : List ℕ) (command_outcome : ScriptOutcome DebugFault) → IsSomeAnd file (λ script. (length script ≤ script_limit) × PlaysScript cart script replies command_outcome)
    → (script_outcome file (record { replies = replies; command_outcome = command_outcome }) ≡ played_outcome command_outcome) × PlaysScript cart (unwrap_or file []) replies command_outcome
script_played None cart replies command_outcome played = absurd played
script_played (Some bytes) cart replies command_outcome (within, plays) =
    (read_within Script script_limit bytes (λ held. played_outcome command_outcome) within, plays)

debug_played : (words : Debugging) (files : Files) (replies : List ℕ) (command_outcome : ScriptOutcome DebugFault) → IsPlayed words files replies command_outcome
    → debug_command_outcome words files (record { replies = replies; command_outcome = command_outcome }) ≡ played_outcome command_outcome
debug_played words files replies command_outcome (accepted, played) =
    right_accepted (files words.rom) _ accepted ∙ (script_played (files words.script) (cart_of words.rom files) replies command_outcome played).0

debug_with : (words : Debugging) (files : Files) (replies : List ℕ) (command_outcome : ScriptOutcome DebugFault) → IsPlayed words files replies command_outcome → command_outcome ≢ OutOfMemory
    → IsDebugRight words files (status_of (played_outcome command_outcome))
debug_with words files replies command_outcome played memory = (
  record { replies = replies; command_outcome = command_outcome },
  inl ((script_played (files words.script) (cart_of words.rom files) replies command_outcome played.1).1, memory),
  sym (ap status_of (debug_played words files replies command_outcome played)),
)

not_obeyed : ◌≡◌ {A = ScriptOutcome DebugFault} Obeyed OutOfMemory → ⊥
not_obeyed same = cc

not_refused : (line : ℕ) (fault : _) → ◌≡◌ {A = ScriptOutcome DebugFault} (Refused line fault) OutOfMemory → ⊥
not_refused line fault same = cc

debug_cart : (observable : Type 0) (words : Debugging) (old new : DepotState) (command_outcome : CommandOutcome) → CartCause observable words.rom old new command_outcome
    → ¬ Rose old.read_faults new.read_faults → observable → IsDebugRight words old.files (status_of command_outcome) ⊎ (status_of command_outcome ≡ 10)
debug_cart observable words old new command_outcome cause clean t = elim (cart_always observable words.rom old new command_outcome cause clean t) [
  | inl always ↦ inl (debug_without words old.files always.0 command_outcome (λ script. always.1 (script_outcome (old.files words.script) script)) always.2)
  | inr memory ↦ inr memory
]

pub debug_right : (observable : Type 0) (words : Debugging) (old new : DepotState) (command_outcome : CommandOutcome) → DebugEnds observable words old new command_outcome → (command_outcome ≡ ReplyFault → ⊥)
    → ¬ Rose old.read_faults new.read_faults → observable → IsDebugRight words old.files (status_of command_outcome) ⊎ (status_of command_outcome ≡ 10)
debug_right observable words old new Played (replies, played) whole clean t = inl (debug_with words old.files replies Obeyed (played t) not_obeyed)
debug_right observable words old new ReplyFault cause whole clean t = absurd (whole refl)
debug_right observable words old new (ScriptRefused line fault) (replies, played) whole clean t =
    inl (debug_with words old.files replies (Refused line fault) (played t) (not_refused line fault))
debug_right observable words old new ScriptMemory cause whole clean t = inr refl
debug_right observable words old new (ReadFault Script) (accepted, inl rose) whole clean t = absurd (clean rose)
debug_right observable words old new (ReadFault Script) (accepted, inr missing) whole clean t =
    inl (debug_without words old.files (ReadFault Script) (ReadFault Script)
    (λ script. right_accepted (old.files words.rom) _ (accepted t) ∙ script_missing (old.files words.script) script missing.1) refl)
debug_right observable words old new (TooLong Script) (accepted, long) whole clean t =
    inl (debug_without words old.files (TooLong Script) (TooLong Script)
    (λ script. right_accepted (old.files words.rom) _ (accepted t) ∙ script_long (old.files words.script) script (long t)) refl)
debug_right observable words old new other cause whole clean t = debug_cart observable words old new other cause clean t

-- ---- each line is obeyed

script_obeyed : (file : Option (List ℕ)) (cart replies others : List ℕ) (line : ℕ) (fault : _)
    → IsSomeAnd file (λ script. (length script ≤ script_limit) × PlaysScript cart script replies Obeyed)
    → IsSomeAnd file (λ script. (length script ≤ script_limit) × PlaysScript cart script others (Refused line fault)) → ⊥
script_obeyed None cart replies others line fault all refused = all
script_obeyed (Some bytes) cart replies others line fault all refused =
    let same = (one_script cart bytes replies others Obeyed (Refused line fault) all.1 refused.1 not_obeyed (not_refused line fault)).1 in
    cc

pub debug_done : (observable : Type 0) (words : Debugging) (old new : DepotState) (command_outcome : CommandOutcome) → CanDebug words old.files → DebugEnds observable words old new command_outcome
    → (command_outcome ≡ ReplyFault → ⊥) → ¬ Rose old.read_faults new.read_faults → observable → (status_of command_outcome ≡ 0) ⊎ (status_of command_outcome ≡ 10)
debug_done observable words old new Played ready cause whole clean t = inl refl
debug_done observable words old new ReplyFault ready cause whole clean t = absurd (whole refl)
debug_done observable words old new (ScriptRefused line fault) ready (replies, played) whole clean t =
    absurd (script_obeyed (old.files words.script) (cart_of words.rom old.files) ready.0 replies line fault ready.1.1 (played t).1)
debug_done observable words old new ScriptMemory ready cause whole clean t = inr refl
debug_done observable words old new (ReadFault Script) ready (accepted, inl rose) whole clean t = absurd (clean rose)
debug_done observable words old new (ReadFault Script) ready (accepted, inr missing) whole clean t = absurd (file_there (old.files words.script) _ ready.1.1 missing.1)
debug_done observable words old new (TooLong Script) ready (accepted, long) whole clean t = absurd (file_within script_limit (old.files words.script) _ ready.1.1 (long t))
debug_done observable words old new other ready cause whole clean t = cart_there observable words.rom old new other ready.1.0 cause clean t

-- ---- what was fetched

-- why a session ends after its cartridge
played_files : (observable : Type 0) (words : Debugging) (files : Files) (cart script : List ℕ) (P : List ℕ → List ℕ → Type 0)
    → (observable → IsAccepted (files words.rom) × (cart ≡ cart_of words.rom files)) → (observable → files words.script ≡ Some script) → length script ≤ script_limit → P cart script
    → observable → IsAccepted (files words.rom) × IsSomeAnd (files words.script) (λ s. (length s ≤ script_limit) × P (cart_of words.rom files) s)
played_files observable words files cart script P found is within plays t = (
  (found t).0,
  subst (λ (f : Option (List ℕ)). IsSomeAnd f (λ s. (length s ≤ script_limit) × P (cart_of words.rom files) s)) (sym (is t))
      (within, subst (λ (c : List ℕ). P c script) (found t).1 plays),
)

pub played_cause : (observable sink : Type 0) (words : Debugging) (old new : DepotState) (cart script : List ℕ) (out out' : SinkState) (command_outcome : ScriptOutcome DebugFault)
    → (observable → IsAccepted (old.files words.rom) × (cart ≡ cart_of words.rom old.files)) → (observable → old.files words.script ≡ Some script) → length script ≤ script_limit
    → PutsScript sink cart script out out' command_outcome
    → DebugEnds observable words old new (played_outcome command_outcome) × ShowsReplies observable sink words old.files (played_outcome command_outcome) out out'
played_cause observable sink words old new cart script out out' command_outcome found is within put =
    by command_outcome (played_files observable words old.files cart script (λ c s. PlaysScript c s put.replies command_outcome) found is within put.plays)
  where
    by : (e : ScriptOutcome DebugFault) → (observable → IsPlayed words old.files put.replies e) → DebugEnds observable words old new (played_outcome e) × ShowsReplies observable sink words old.files (played_outcome e) out out'
    by Obeyed played = ((put.replies, played), (put.replies, played, put.puts))
    by (Refused line fault) played = ((put.replies, played), (put.replies, played, put.puts))
    by OutOfMemory played = ((put.replies, played), (put.replies, played, put.puts))

-- a reply could not be put
pub stopped_cause : (observable sink : Type 0) (words : Debugging) (old new : DepotState) (cart script : List ℕ) (out out' : SinkState)
    → (observable → IsAccepted (old.files words.rom) × (cart ≡ cart_of words.rom old.files)) → (observable → old.files words.script ≡ Some script) → length script ≤ script_limit
    → StopsScript sink cart script out out' → DebugEnds observable words old new ReplyFault × ShowsReplies observable sink words old.files ReplyFault out out'
stopped_cause observable sink words old new cart script out out' found is within stopped = let stops = stopped.stops in (
  λ t. ((found t).0, subst (λ (f : Option (List ℕ)). IsSomeAnd f (λ s. length s ≤ script_limit)) (sym (is t)) within),
  (
    stops.replies ++ reply_to stops.command stopped.after,
    played_files observable words old.files cart script (λ c s. StopsScript sink c s out out') found is within stopped,
    puts_on sink stops.replies (reply_to stops.command stopped.after) out stops.between out' (Err tt) stops.puts stops.fails,
  ),
)

-- why a session has no cartridge
pub cart_ends : (observable sink : Type 0) (words : Debugging) (old new : DepotState) (out : SinkState) (command_outcome : CommandOutcome) → CartCause observable words.rom old new command_outcome
    → DebugEnds observable words old new command_outcome × ShowsReplies observable sink words old.files command_outcome out out
cart_ends observable sink words old new out Played cause = absurd cause
cart_ends observable sink words old new out ReplyFault cause = absurd cause
cart_ends observable sink words old new out (ScriptRefused line fault) cause = absurd cause
cart_ends observable sink words old new out ScriptMemory cause = absurd cause
cart_ends observable sink words old new out (ReadFault Script) cause = absurd cause
cart_ends observable sink words old new out (TooLong Script) cause = absurd cause
cart_ends observable sink words old new out _ cause = (cause, refl)
