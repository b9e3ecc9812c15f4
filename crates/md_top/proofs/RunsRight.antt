-- What a run results in where no fault comes between and memory suffices, and the saved state's part in it.
use Rattle.std.proofs.Common.{◌≡◌, ◌⊎◌, inl, inr, ℕ, ◌<◌, ◌≤◌, Bool, cond, List, [], length, Option, Some, None, refl, sym, ap, ap₂, subst, ◌∙◌, arith}
use Rattle.std.specs.Prelude.{IsSomeAnd, nat_le, unwrap_or}
use Rattle.std.proofs.lemmas.Bool.{le-ltb, lt-ltb, le-leb, lt-leb}
use Rattle.rom_header.specs.declared.cart.CartFault.TheVariants as fault
use Rattle.md_outer.specs.Outside.{DepotState, Files, Rose}
use Rattle.md_pads.specs.Recording.{InvalidAt, Recorded, Spells}
use Rattle.md_top.specs.CommandOutcomes.{status_of}
use Rattle.md_top.specs.Refusals.{accepted_command_outcome, asked_command_outcome, file_command_outcome, loaded_command_outcome, recorded_command_outcome, recording_command_outcome, state_command_outcome}
use Rattle.md_top.specs.Inputs.{AreInputs, CartCause, IsAccepted, IsValidated, IsTooLong, IsUnread, IsVerdict, Spelled, RecordingCause, Records, Verdict, Unspelled, cart_of, recording_limit}
use Rattle.md_word.specs.Clock.{last_cycle}
use Rattle.md_top.specs.Loads.{Begins, BeginsWith, IsFound, IsFoundIn, IsLoadValidated, IsStateValidated, LoadCause, inputs_by, state_limit}
use Rattle.state_laws.specs.Verdicts.{Keeps, OfOther, StateVerdict, StateInvalidAt}
use Rattle.md_chips.specs.Starts.{Start}
use Rattle.md_args.specs.Words.{Run}
use Rattle.md_args.specs.declared.files.Input.TheVariants.{First, Recording, State}
use Rattle.md_top.specs.declared.command_outcome.CommandOutcome.{CommandOutcome}
use Rattle.md_top.specs.declared.command_outcome.CommandOutcome.TheVariants.{Shown, ReadFault, Short, NoMark, RecordingInvalid, StateInvalid, OtherCart, Memory, TooFar, TooLong}
use Rattle.run_command.specs.declared.inputs.Inputs.{Inputs}
use Rattle.md_top.proofs.Right.{file_long, file_state_long, load_right, loaded_run, read_within, recording_same, right_accepted, right_long, right_missing, right_recorded, right_refused}

-- OF A RUN

pub right_far : (run : Run) (files : Files) (verdict : Verdict) (state : StateVerdict) → last_cycle < run.cycles → asked_command_outcome run files verdict state ≡ TooFar
right_far run files verdict state far =
    ap (λ (b : Bool). cond b TooFar (file_command_outcome (files run.rom) (accepted_command_outcome run files verdict state))) (lt-ltb last_cycle run.cycles far)

pub right_near : (run : Run) (files : Files) (verdict : Verdict) (state : StateVerdict) → run.cycles ≤ last_cycle
    → asked_command_outcome run files verdict state ≡ file_command_outcome (files run.rom) (accepted_command_outcome run files verdict state)
right_near run files verdict state near =
    ap (λ (b : Bool). cond b TooFar (file_command_outcome (files run.rom) (accepted_command_outcome run files verdict state))) (le-ltb last_cycle run.cycles near)

pub right_after_cart : (run : Run) (files : Files) (verdict : Verdict) (state : StateVerdict) → run.cycles ≤ last_cycle → IsAccepted (files run.rom)
    → asked_command_outcome run files verdict state ≡ accepted_command_outcome run files verdict state
right_after_cart run files verdict state near accepted = right_near run files verdict state near ∙ right_accepted (files run.rom) (accepted_command_outcome run files verdict state) accepted

-- after both inputs: they are those that the verdict on the recording tells
inputs_same : (run : Run) (files : Files) (verdict : Verdict) (inputs : Inputs) → AreInputs run files inputs → IsValidated run.recording files verdict
    → inputs ≡ inputs_by run files verdict
inputs_same run files verdict inputs are is = λ i. record { cart = are.cart i; recording = recording_same run.recording files verdict inputs.recording are.recording is i; pal = are.pal i }

-- after both inputs
right_inputs : (run : Run) (files : Files) (verdict : Verdict) (state : StateVerdict) (inputs : Inputs) → run.cycles ≤ last_cycle → AreInputs run files inputs
    → IsValidated run.recording files verdict → asked_command_outcome run files verdict state ≡ loaded_command_outcome run.load files state inputs run.cycles
right_inputs run files verdict state inputs near are is =
    right_after_cart run files verdict state near are.accepted
    ∙ right_recorded run.recording files verdict inputs.recording
    (λ recording. loaded_command_outcome run.load files state (record { cart = cart_of run.rom files; recording = recording; pal = run.pal }) run.cycles) are.recording is
    ∙ ap₂ (λ (cart : List ℕ) (pal : Bool). loaded_command_outcome run.load files state (record { cart = cart; recording = inputs.recording; pal = pal }) run.cycles) (sym are.cart) (sym are.pal)

validated_inputs : (run : Run) (files : Files) (verdict : Verdict) (state : StateVerdict) (inputs : Inputs) → AreInputs run files inputs → IsValidated run.recording files verdict
    → IsStateValidated (Some run) files verdict state → IsLoadValidated run.load inputs files state
validated_inputs run files verdict state inputs are is validated =
    subst (λ (given : Inputs). IsLoadValidated run.load given files state) (sym (inputs_same run files verdict inputs are is)) validated

right_run : (run : Run) (files : Files) (verdict : Verdict) (state : StateVerdict) (start : Start) → run.cycles ≤ last_cycle → Begins run files start
    → IsValidated run.recording files verdict → IsStateValidated (Some run) files verdict state
    → status_of (asked_command_outcome run files verdict state) ≡ cond (nat_le run.cycles start.at) 9 0
right_run run files verdict state start near begins is validated =
    ap status_of (right_inputs run files verdict state begins.inputs near begins.are is)
    ∙ loaded_run run.load files begins.inputs state start run.cycles begins.with (validated_inputs run files verdict state begins.inputs begins.are is validated)

pub right_after : (run : Run) (files : Files) (verdict : Verdict) (state : StateVerdict) (start : Start) → run.cycles ≤ last_cycle → run.cycles ≤ start.at → Begins run files start
    → IsValidated run.recording files verdict → IsStateValidated (Some run) files verdict state → status_of (asked_command_outcome run files verdict state) ≡ 9
right_after run files verdict state start near following begins is validated =
    right_run run files verdict state start near begins is validated ∙ ap (λ (b : Bool). cond b 9 0) (le-leb run.cycles start.at following)

pub right_done : (run : Run) (files : Files) (verdict : Verdict) (state : StateVerdict) (start : Start) → run.cycles ≤ last_cycle → start.at < run.cycles → Begins run files start
    → IsValidated run.recording files verdict → IsStateValidated (Some run) files verdict state → status_of (asked_command_outcome run files verdict state) ≡ 0
right_done run files verdict state start near ahead begins is validated =
    right_run run files verdict state start near begins is validated ∙ ap (λ (b : Bool). cond b 9 0) (lt-leb run.cycles start.at ahead)

pub right_load : (observable : Type 0) (run : Run) (old new : DepotState) (verdict : Verdict) (state : StateVerdict) (command_outcome : CommandOutcome) → run.cycles ≤ last_cycle
    → LoadCause observable run old new command_outcome → IsValidated run.recording old.files verdict → IsStateValidated (Some run) old.files verdict state
    → ¬ Rose old.read_faults new.read_faults → observable → (status_of command_outcome ≡ status_of (asked_command_outcome run old.files verdict state)) ⊎ (status_of command_outcome ≡ 10)
right_load observable run old new verdict state command_outcome near (inputs, are, cause) is validated clean t =
    same (load_right observable run.load inputs old new state run.cycles command_outcome cause (validated_inputs run old.files verdict state inputs (are t) is validated) clean t)
  where
    same : (status_of command_outcome ≡ status_of (loaded_command_outcome run.load old.files state inputs run.cycles)) ⊎ (status_of command_outcome ≡ 10)
        → (status_of command_outcome ≡ status_of (asked_command_outcome run old.files verdict state)) ⊎ (status_of command_outcome ≡ 10)
    same (inl right) = inl (right ∙ sym (ap status_of (right_inputs run old.files verdict state inputs near (are t) is)))
    same (inr memory) = inr memory

-- the inputs that there are have a verdict
file_validated : (file : Option (List ℕ)) (recording : Recorded) → IsSomeAnd file (λ bytes. (length bytes ≤ recording_limit) × Spells bytes recording)
    → IsVerdict (unwrap_or file []) (Spelled recording)
file_validated None recording is = absurd is
file_validated (Some bytes) recording is = is.1

pub recording_validated : (name : Option (List ℕ)) (files : Files) (recording : Recorded) → Records name files recording → IsValidated name files (Spelled recording)
recording_validated None files recording is = tt
recording_validated (Some name) files recording is = file_validated (files name) recording is

-- and so has the saved state that is found to be so
file_state : (file : Option (List ℕ)) (inputs : Inputs) (verdict : StateVerdict) → IsFoundIn file inputs verdict → IsFound inputs (unwrap_or file []) verdict
file_state None inputs verdict found = absurd found
file_state (Some bytes) inputs verdict found = found.1

load_validated : (load : Option (List ℕ)) (files : Files) (inputs : Inputs) (start : Start) → BeginsWith load files inputs start → IsLoadValidated load inputs files (Keeps start)
load_validated None files inputs start begins = tt
load_validated (Some name) files inputs start begins = file_state (files name) inputs (Keeps start) begins

pub state_validated : (run : Run) (files : Files) (verdict : Verdict) (inputs : Inputs) (start : Start) → AreInputs run files inputs → IsValidated run.recording files verdict
    → BeginsWith run.load files inputs start → IsStateValidated (Some run) files verdict (Keeps start)
state_validated run files verdict inputs start are is begins =
    subst (λ (given : Inputs). IsLoadValidated run.load given files (Keeps start)) (inputs_same run files verdict inputs are is) (load_validated run.load files inputs start begins)

-- THE SAVED STATE'S PART IN THE ENDING

-- what a run results in depends on a verdict on its saved state, or on none
abbrev pub IsRunRight : Run → Files → Verdict → ℕ → Type 0
IsRunRight run files verdict status =
    (state : StateVerdict)
    × (IsStateValidated (Some run) files verdict state ⊎ ((other : StateVerdict) → asked_command_outcome run files verdict other ≡ asked_command_outcome run files verdict state))
    × (status ≡ status_of (asked_command_outcome run files verdict state))

-- on none
pub right_without : (run : Run) (files : Files) (verdict : Verdict) (right command_outcome : CommandOutcome) → ((state : StateVerdict) → asked_command_outcome run files verdict state ≡ right)
    → status_of command_outcome ≡ status_of right → IsRunRight run files verdict (status_of command_outcome)
right_without run files verdict right command_outcome always is =
    (StateInvalidAt 0, inr (λ other. always other ∙ sym (always (StateInvalidAt 0))), is ∙ sym (ap status_of (always (StateInvalidAt 0))))

-- on this one
pub right_with : (run : Run) (files : Files) (verdict : Verdict) (state : StateVerdict) (status : ℕ) → IsStateValidated (Some run) files verdict state
    → (status ≡ status_of (asked_command_outcome run files verdict state)) ⊎ (status ≡ 10) → IsRunRight run files verdict status ⊎ (status ≡ 10)
right_with run files verdict state status validated (inl is) = inl (state, inl validated, is)
right_with run files verdict state status validated (inr memory) = inr memory

-- a cartridge that is refused is so whatever comes after it
pub cart_always : (observable : Type 0) (rom : List ℕ) (old new : DepotState) (command_outcome : CommandOutcome) → CartCause observable rom old new command_outcome → ¬ Rose old.read_faults new.read_faults → observable
    → ((right : CommandOutcome) × ((rest : CommandOutcome) → file_command_outcome (old.files rom) rest ≡ right) × (status_of command_outcome ≡ status_of right)) ⊎ (status_of command_outcome ≡ 10)
cart_always observable rom old new (ReadFault First) (inl rose) clean t = absurd (clean rose)
cart_always observable rom old new (ReadFault First) (inr missing) clean t = inl (ReadFault First, (λ rest. right_missing (old.files rom) rest missing.1), refl)
cart_always observable rom old new (TooLong First) cause clean t = inl (TooLong First, (λ rest. right_long (old.files rom) rest (cause t)), refl)
cart_always observable rom old new Short cause clean t = inl (Short, (λ rest. right_refused (old.files rom) rest fault.Short (cause t)), refl)
cart_always observable rom old new NoMark cause clean t = inl (NoMark, (λ rest. right_refused (old.files rom) rest fault.NoMark (cause t)), refl)
cart_always observable rom old new Memory cause clean t = inr refl
cart_always observable rom old new _ cause clean t = absurd cause

-- where the cartridge is accepted no cause of it ends a command
pub cart_there : (observable : Type 0) (rom : List ℕ) (old new : DepotState) (command_outcome : CommandOutcome) → IsAccepted (old.files rom) → CartCause observable rom old new command_outcome
    → ¬ Rose old.read_faults new.read_faults → observable → (status_of command_outcome ≡ 0) ⊎ (status_of command_outcome ≡ 10)
cart_there observable rom old new command_outcome accepted cause clean t = elim (cart_always observable rom old new command_outcome cause clean t) [
  | inl always ↦
      inl (always.2 ∙ sym (ap status_of (always.1 (Shown []))) ∙ ap status_of (right_accepted (old.files rom) (Shown []) accepted))
  | inr memory ↦ inr memory
]

-- a file that is there is not missing
pub file_there : (file : Option (List ℕ)) (P : List ℕ → Type 0) → IsSomeAnd file P → file ≡ None → ⊥
file_there None P held none = held
file_there (Some bytes) P held none = cc

-- and one within its limit is not too long
pub file_within : (limit : ℕ) (file : Option (List ℕ)) (P : List ℕ → Type 0) → IsSomeAnd file (λ bytes. (length bytes ≤ limit) × P bytes)
    → IsSomeAnd file (λ bytes. limit < length bytes) → ⊥
file_within limit None P held long = held
file_within limit (Some bytes) P held long = omega (arith, held.0, long)

invalid_always : (file : Option (List ℕ)) (verdict : Verdict) (place : ℕ)
    → IsSomeAnd file (λ bytes. (length bytes ≤ recording_limit) × InvalidAt bytes place) → IsVerdict (unwrap_or file []) verdict
    → (right : CommandOutcome) × ((ready : Recorded → CommandOutcome) → recording_command_outcome file verdict ready ≡ right) × (6 ≡ status_of right)
invalid_always None verdict place is validated = absurd is
invalid_always (Some bytes) (Spelled recording) place (within, invalid) validated = absurd (invalid.none (recording, validated))
invalid_always (Some bytes) (Unspelled other) place (within, invalid) validated =
    (RecordingInvalid other, (λ ready. read_within Recording recording_limit bytes (λ held. RecordingInvalid other) within), refl)

-- and so is a recording
pub recording_always : (observable : Type 0) (name : Option (List ℕ)) (old new : DepotState) (verdict : Verdict) (command_outcome : CommandOutcome)
    → RecordingCause observable name old new command_outcome → IsValidated name old.files verdict → ¬ Rose old.read_faults new.read_faults → observable
    → ((right : CommandOutcome) × ((ready : Recorded → CommandOutcome) → recorded_command_outcome name old.files verdict ready ≡ right) × (status_of command_outcome ≡ status_of right)) ⊎ (status_of command_outcome ≡ 10)
recording_always observable None old new verdict command_outcome cause validated clean t = absurd cause
recording_always observable (Some name) old new verdict (ReadFault Recording) (inl rose) validated clean t = absurd (clean rose)
recording_always observable (Some name) old new verdict (ReadFault Recording) (inr missing) validated clean t =
    inl (ReadFault Recording, (λ ready. ap (λ (file : Option (List ℕ)). recording_command_outcome file verdict ready) missing.1), refl)
recording_always observable (Some name) old new verdict (TooLong Recording) cause validated clean t =
    inl (TooLong Recording, (λ ready. file_long (old.files name) verdict ready (cause t)), refl)
recording_always observable (Some name) old new verdict (RecordingInvalid place) cause validated clean t = inl (invalid_always (old.files name) verdict place (cause t) validated)
recording_always observable (Some name) old new verdict Memory cause validated clean t = inr refl
recording_always observable (Some name) old new verdict _ cause validated clean t = absurd cause

-- and a saved state that is not read
load_always : (observable : Type 0) (load : Option (List ℕ)) (inputs : Inputs) (old new : DepotState) (end : ℕ)
    → IsSomeAnd load (λ name. IsUnread observable name old new) → ¬ Rose old.read_faults new.read_faults
    → (state : StateVerdict) → loaded_command_outcome load old.files state inputs end ≡ ReadFault State
load_always observable None inputs old new end cause clean state = absurd cause
load_always observable (Some name) inputs old new end (inl rose) clean state = absurd (clean rose)
load_always observable (Some name) inputs old new end (inr missing) clean state = ap (λ (file : Option (List ℕ)). state_command_outcome file state end) missing.1

long_always : (observable : Type 0) (load : Option (List ℕ)) (inputs : Inputs) (old : DepotState) (end : ℕ)
    → IsSomeAnd load (λ name. IsTooLong observable state_limit name old) → observable
    → (state : StateVerdict) → loaded_command_outcome load old.files state inputs end ≡ TooLong State
long_always observable None inputs old end cause t state = absurd cause
long_always observable (Some name) inputs old end cause t state = file_state_long (old.files name) state end (cause t)

found_validated : (observable : Type 0) (load : Option (List ℕ)) (inputs : Inputs) (files : Files) (verdict : StateVerdict)
    → IsSomeAnd load (λ name. observable → IsFoundIn (files name) inputs verdict) → observable → IsLoadValidated load inputs files verdict
found_validated observable None inputs files verdict cause t = tt
found_validated observable (Some name) inputs files verdict cause t = file_state (files name) inputs verdict (cause t)

-- why a run has no machine, with the verdict on its saved state that this depends on
pub load_right_with : (observable : Type 0) (run : Run) (old new : DepotState) (verdict : Verdict) (command_outcome : CommandOutcome) → run.cycles ≤ last_cycle
    → LoadCause observable run old new command_outcome → IsValidated run.recording old.files verdict → ¬ Rose old.read_faults new.read_faults → observable
    → IsRunRight run old.files verdict (status_of command_outcome) ⊎ (status_of command_outcome ≡ 10)
load_right_with observable run old new verdict (ReadFault State) near (inputs, are, cause) is clean t =
    inl (right_without run old.files verdict (ReadFault State) (ReadFault State)
    (λ state. right_inputs run old.files verdict state inputs near (are t) is ∙ load_always observable run.load inputs old new run.cycles cause clean state) refl)
load_right_with observable run old new verdict (TooLong State) near (inputs, are, cause) is clean t =
    inl (right_without run old.files verdict (TooLong State) (TooLong State)
    (λ state. right_inputs run old.files verdict state inputs near (are t) is ∙ long_always observable run.load inputs old run.cycles cause t state) refl)
load_right_with observable run old new verdict (StateInvalid place) near (inputs, are, cause) is clean t =
    let validated = found_validated observable run.load inputs old.files (StateInvalidAt place) cause t in
    let given : IsStateValidated (Some run) old.files verdict (StateInvalidAt place) =
    subst (λ (given : Inputs). IsLoadValidated run.load given old.files (StateInvalidAt place)) (inputs_same run old.files verdict inputs (are t) is) validated in
    right_with run old.files verdict (StateInvalidAt place) 7 given
    (right_load observable run old new verdict (StateInvalidAt place) (StateInvalid place) near (inputs, are, cause) is given clean t)
load_right_with observable run old new verdict (OtherCart kept other) near (inputs, are, cause) is clean t =
    let validated = found_validated observable run.load inputs old.files (OfOther kept other) cause t in
    let given : IsStateValidated (Some run) old.files verdict (OfOther kept other) =
    subst (λ (given : Inputs). IsLoadValidated run.load given old.files (OfOther kept other)) (inputs_same run old.files verdict inputs (are t) is) validated in
    right_with run old.files verdict (OfOther kept other) 8 given
    (right_load observable run old new verdict (OfOther kept other) (OtherCart kept other) near (inputs, are, cause) is given clean t)
load_right_with observable run old new verdict Memory near cause is clean t = inr refl
load_right_with observable run old new verdict _ near (inputs, are, cause) is clean t = absurd cause
