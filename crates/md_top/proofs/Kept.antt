-- What reading a saved state results in.
use Rattle.std.proofs.Common.{◌≡◌, inl, inr, ℕ, ◌<◌, ◌≤◌, List, length, Option, Some, None, sym, ap, ◌∙◌, subst}
use Rattle.std.specs.Prelude.{IsSomeAnd}
use Rattle.md_outer.specs.Outside.{DepotState, Files, GoesOn}
use Rattle.md_args.specs.declared.files.Input.TheVariants.{State}
use Rattle.md_top.specs.Inputs.{IsUnread}
use Rattle.md_top.specs.Loads.{IsFound, IsFoundIn, IsRefused, StateCause, state_limit}
use Rattle.state_laws.specs.Verdicts.{OfOther, StateVerdict, StateInvalidAt}
use Rattle.md_top.specs.declared.command_outcome.CommandOutcome.{CommandOutcome}
use Rattle.md_top.specs.declared.command_outcome.CommandOutcome.TheVariants.{Memory, OtherCart, ReadFault, StateInvalid, TooLong}
use Rattle.run_command.specs.declared.inputs.Inputs.{Inputs}
use Rattle.md_top.proofs.Fetched.{held}
use Rattle.run_command.proofs.Ends.{rose_later}

pub found-in : (file : Option (List ℕ)) (inputs : Inputs) (bytes : List ℕ) (verdict : StateVerdict) → file ≡ Some bytes → length bytes ≤ state_limit
    → IsFound inputs bytes verdict → IsFoundIn file inputs verdict
found-in file inputs bytes verdict is within found = held (λ l. (length l ≤ state_limit) × IsFound inputs l verdict) file bytes is (within, found)

-- why no machine was made of them
pub refused-cause : (observable : Type 0) (name : List ℕ) (inputs : Inputs) (old new : DepotState) (bytes : List ℕ) (command_outcome : CommandOutcome)
    → (observable → old.files name ≡ Some bytes) → length bytes ≤ state_limit → IsRefused inputs bytes command_outcome → StateCause observable (Some name) inputs old new command_outcome
refused-cause observable name inputs old new bytes (StateInvalid place) is within refused =
    λ t. found-in (old.files name) inputs bytes (StateInvalidAt place) (is t) within refused
refused-cause observable name inputs old new bytes (OtherCart kept given) is within refused =
    λ t. found-in (old.files name) inputs bytes (OfOther kept given) (is t) within refused
refused-cause observable name inputs old new bytes Memory is within refused = tt
refused-cause observable name inputs old new bytes _ is within refused = absurd refused

-- a cause from later on is one from before
some-map : (o : Option (List ℕ)) {P Q : List ℕ → Type 0} → ((name : List ℕ) → P name → Q name) → IsSomeAnd o P → IsSomeAnd o Q
some-map None f p = absurd p
some-map (Some name) f p = f name p

pub unread_before : (observable : Type 0) (name : List ℕ) (old mid new : DepotState) → (observable → mid.files ≡ old.files) → GoesOn old mid
    → IsUnread observable name mid new → IsUnread observable name old new
unread_before observable name old mid new same on (inl rose) = inl (rose_later old.read_faults mid.read_faults new.read_faults on.reads rose)
unread_before observable name old mid new same on (inr missing) = inr (missing.0, sym (ap (λ (files : Files). files name) (same missing.0)) ∙ missing.1)

pub state-cause-before : (observable : Type 0) (load : Option (List ℕ)) (inputs : Inputs) (old mid new : DepotState) (command_outcome : CommandOutcome) → (observable → mid.files ≡ old.files) → GoesOn old mid
    → StateCause observable load inputs mid new command_outcome → StateCause observable load inputs old new command_outcome
state-cause-before observable load inputs old mid new (ReadFault State) same on cause =
    some-map load (λ name. unread_before observable name old mid new same on) cause
state-cause-before observable load inputs old mid new (TooLong State) same on cause =
    some-map load (λ name long t. subst (λ (files : Files). IsSomeAnd (files name) (λ bytes. state_limit < length bytes)) (same t) (long t)) cause
state-cause-before observable load inputs old mid new (StateInvalid place) same on cause =
    some-map load (λ name invalid t. subst (λ (files : Files). IsFoundIn (files name) inputs (StateInvalidAt place)) (same t) (invalid t)) cause
state-cause-before observable load inputs old mid new (OtherCart kept given) same on cause =
    some-map load (λ name other t. subst (λ (files : Files). IsFoundIn (files name) inputs (OfOther kept given)) (same t) (other t)) cause
state-cause-before observable load inputs old mid new Memory same on cause = tt
state-cause-before observable load inputs old mid new _ same on cause = absurd cause
