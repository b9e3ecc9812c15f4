-- The outcome where no fault comes between and memory suffices.
use Rattle.std.proofs.Common.{◌≡◌, ◌⊎◌, inl, inr, ℕ, ◌<◌, ◌≤◌, Bool, true, false, cond, List, [], length, Option, Some, None, refl, sym, ap, ◌∙◌}
use Rattle.std.specs.Prelude.{IsSomeAnd, nat_le, nat_lt, unwrap_or}
use Rattle.std.proofs.lemmas.Bool.{le-ltb, lt-ltb}
use Rattle.rom_header.specs.Cartridge.{fault_of, has_magic}
use Rattle.rom_header.specs.declared.cart.CartFault.{CartFault}
use Rattle.rom_header.specs.declared.cart.CartFault.TheVariants as fault
use Rattle.md_outer.specs.Outside.{DepotState, Files, Rose}
use Rattle.md_pads.specs.Recording.{InvalidAt, Recorded, Spells}
use Rattle.md_top.specs.CommandOutcomes.{status_of}
use Rattle.md_top.specs.Refusals.{cart_command_outcome, file_command_outcome, kept_command_outcome, loaded_command_outcome, read_command_outcome, recorded_command_outcome, recording_command_outcome, run_command_outcome, state_command_outcome, verdict_command_outcome}
use Rattle.md_top.specs.Inputs.{CartCause, IsAccepted, IsValidated, IsVerdict, Spelled, RecordingCause, Records, Verdict, Unspelled, cart_limit, recording_limit}
use Rattle.md_top.specs.Loads.{BeginsWith, IsFound, IsFoundIn, IsLoadValidated, StateCause, recording_by, state_limit}
use Rattle.state_laws.specs.Verdicts.{Keeps, OfOther, StateVerdict, StateInvalidAt}
use Rattle.run_command.specs.Runs.{entries_from, halted_from, media_from, powered_on}
use Rattle.md_chips.specs.Starts.{Start}
use Rattle.md_args.specs.declared.files.Input.{Input}
use Rattle.md_args.specs.declared.files.Input.TheVariants.{First, Recording, State}
use Rattle.md_top.specs.declared.command_outcome.CommandOutcome.{CommandOutcome}
use Rattle.md_top.specs.declared.command_outcome.CommandOutcome.TheVariants.{Done, ReadFault, Short, NoMark, RecordingInvalid, StateInvalid, OtherCart, Behind, Memory, TooLong}
use Rattle.run_command.specs.declared.inputs.Inputs.{Inputs}
use Rattle.md_pads.proofs.Whole.{one_recording}
use Rattle.state_laws.proofs.Whole.{one_verdict}

-- AFTER THE FILE OF AN INPUT

pub read_missing : (which : Input) (limit : ℕ) (file : Option (List ℕ)) (command_outcome : List ℕ → CommandOutcome) → file ≡ None → read_command_outcome which limit file command_outcome ≡ ReadFault which
read_missing which limit file command_outcome missing = ap (λ (held : Option (List ℕ)). read_command_outcome which limit held command_outcome) missing

pub read_long : (which : Input) (limit : ℕ) (file : Option (List ℕ)) (command_outcome : List ℕ → CommandOutcome) → IsSomeAnd file (λ bytes. limit < length bytes)
    → read_command_outcome which limit file command_outcome ≡ TooLong which
read_long which limit None command_outcome long = absurd long
read_long which limit (Some bytes) command_outcome long = ap (λ (too_long : Bool). cond too_long (TooLong which) (command_outcome bytes)) (lt-ltb limit (length bytes) long)

pub read_within : (which : Input) (limit : ℕ) (bytes : List ℕ) (command_outcome : List ℕ → CommandOutcome) → length bytes ≤ limit → read_command_outcome which limit (Some bytes) command_outcome ≡ command_outcome bytes
read_within which limit bytes command_outcome within = ap (λ (long : Bool). cond long (TooLong which) (command_outcome bytes)) (le-ltb limit (length bytes) within)

-- AFTER THE CARTRIDGE'S FILE

-- a file within the limit is not refused as too long
not_long : (short mark : Bool) → cond short (Some fault.Short) (cond false (Some fault.Long) (cond mark None (Some fault.NoMark))) ≡ Some fault.Long → ⊥
not_long true mark same = cc
not_long false true same = cc
not_long false false same = cc

pub long_is_long : (bytes : List ℕ) → length bytes ≤ cart_limit → fault_of bytes ≡ Some fault.Long → ⊥
long_is_long bytes within why =
    not_long (nat_lt (length bytes) 512) (has_magic bytes)
    (rw (le-ltb 4194304 (length bytes) within) at why)

pub right_accepted : (file : Option (List ℕ)) (rest : CommandOutcome) → IsAccepted file → file_command_outcome file rest ≡ rest
right_accepted None rest accepted = absurd accepted
right_accepted (Some bytes) rest (within, ok) =
    read_within First cart_limit bytes (λ held. cart_command_outcome (fault_of held) rest) within
    ∙ ap (λ (fault : Option CartFault). cart_command_outcome fault rest) ok

pub right_long : (file : Option (List ℕ)) (rest : CommandOutcome) → IsSomeAnd file (λ bytes. cart_limit < length bytes) → file_command_outcome file rest ≡ TooLong First
right_long file rest long = read_long First cart_limit file (λ held. cart_command_outcome (fault_of held) rest) long

pub right_refused : (file : Option (List ℕ)) (rest : CommandOutcome) (why : CartFault)
    → IsSomeAnd file (λ bytes. (length bytes ≤ cart_limit) × (fault_of bytes ≡ Some why)) → file_command_outcome file rest ≡ cart_command_outcome (Some why) rest
right_refused None rest why refused = absurd refused
right_refused (Some bytes) rest why (within, is) =
    read_within First cart_limit bytes (λ held. cart_command_outcome (fault_of held) rest) within
    ∙ ap (λ (refused : Option CartFault). cart_command_outcome refused rest) is

pub right_missing : (file : Option (List ℕ)) (rest : CommandOutcome) → file ≡ None → file_command_outcome file rest ≡ ReadFault First
right_missing file rest missing = read_missing First cart_limit file (λ held. cart_command_outcome (fault_of held) rest) missing

-- without a fault the outcome is the right one, or memory runs out
pub cart_right : (observable : Type 0) (rom : List ℕ) (old new : DepotState) (rest command_outcome : CommandOutcome) → CartCause observable rom old new command_outcome
    → ¬ Rose old.read_faults new.read_faults → observable → (status_of command_outcome ≡ status_of (file_command_outcome (old.files rom) rest)) ⊎ (status_of command_outcome ≡ 10)
cart_right observable rom old new rest (ReadFault First) (inl rose) clean t = absurd (clean rose)
cart_right observable rom old new rest (ReadFault First) (inr missing) clean t = inl (sym (ap status_of (right_missing (old.files rom) rest missing.1)))
cart_right observable rom old new rest (TooLong First) cause clean t = inl (sym (ap status_of (right_long (old.files rom) rest (cause t))))
cart_right observable rom old new rest Short cause clean t = inl (sym (ap status_of (right_refused (old.files rom) rest fault.Short (cause t))))
cart_right observable rom old new rest NoMark cause clean t = inl (sym (ap status_of (right_refused (old.files rom) rest fault.NoMark (cause t))))
cart_right observable rom old new rest Memory cause clean t = inr refl
cart_right observable rom old new rest _ cause clean t = absurd cause

-- AFTER THE RECORDING'S FILE

-- the recording is the one that the verdict tells
file_recording : (file : Option (List ℕ)) (verdict : Verdict) (recording : Recorded) (name : List ℕ)
    → IsSomeAnd file (λ bytes. (length bytes ≤ recording_limit) × Spells bytes recording) → IsVerdict (unwrap_or file []) verdict
    → recording ≡ recording_by (Some name) verdict
file_recording None verdict recording name is validated = absurd is
file_recording (Some bytes) (Spelled found) recording name (within, spells) validated = one_recording bytes recording found spells validated
file_recording (Some bytes) (Unspelled place) recording name (within, spells) validated = absurd (validated.none (recording, spells))

pub recording_same : (name : Option (List ℕ)) (files : Files) (verdict : Verdict) (recording : Recorded) → Records name files recording → IsValidated name files verdict
    → recording ≡ recording_by name verdict
recording_same None files verdict recording is validated = is
recording_same (Some name) files verdict recording is validated = file_recording (files name) verdict recording name is validated

file_recorded : (file : Option (List ℕ)) (verdict : Verdict) (recording : Recorded) (ready : Recorded → CommandOutcome)
    → IsSomeAnd file (λ bytes. (length bytes ≤ recording_limit) × Spells bytes recording) → IsVerdict (unwrap_or file []) verdict
    → recording_command_outcome file verdict ready ≡ ready recording
file_recorded None verdict recording ready is validated = absurd is
file_recorded (Some bytes) (Spelled found) recording ready (within, spells) validated =
    read_within Recording recording_limit bytes (λ held. ready found) within
    ∙ ap ready (one_recording bytes found recording validated spells)
file_recorded (Some bytes) (Unspelled place) recording ready (within, spells) validated = absurd (validated.none (recording, spells))

pub right_recorded : (name : Option (List ℕ)) (files : Files) (verdict : Verdict) (recording : Recorded) (ready : Recorded → CommandOutcome)
    → Records name files recording → IsValidated name files verdict → recorded_command_outcome name files verdict ready ≡ ready recording
right_recorded None files verdict recording ready is validated = ap ready (sym is)
right_recorded (Some name) files verdict recording ready is validated = file_recorded (files name) verdict recording ready is validated

pub file_long : (file : Option (List ℕ)) (verdict : Verdict) (ready : Recorded → CommandOutcome) → IsSomeAnd file (λ bytes. recording_limit < length bytes)
    → recording_command_outcome file verdict ready ≡ TooLong Recording
file_long file verdict ready long = read_long Recording recording_limit file (λ held. verdict_command_outcome verdict ready) long

-- whatever the verdict, there is a place at which the bytes go wrong
file_invalid : (file : Option (List ℕ)) (verdict : Verdict) (place : ℕ) (ready : Recorded → CommandOutcome)
    → IsSomeAnd file (λ bytes. (length bytes ≤ recording_limit) × InvalidAt bytes place) → IsVerdict (unwrap_or file []) verdict
    → status_of (recording_command_outcome file verdict ready) ≡ 6
file_invalid None verdict place ready is validated = absurd is
file_invalid (Some bytes) (Spelled recording) place ready (within, invalid) validated = absurd (invalid.none (recording, validated))
file_invalid (Some bytes) (Unspelled other) place ready (within, invalid) validated =
    ap status_of (read_within Recording recording_limit bytes (λ held. RecordingInvalid other) within)

pub recording_right : (observable : Type 0) (name : Option (List ℕ)) (old new : DepotState) (verdict : Verdict) (ready : Recorded → CommandOutcome) (command_outcome : CommandOutcome)
    → RecordingCause observable name old new command_outcome → IsValidated name old.files verdict → ¬ Rose old.read_faults new.read_faults → observable
    → (status_of command_outcome ≡ status_of (recorded_command_outcome name old.files verdict ready)) ⊎ (status_of command_outcome ≡ 10)
recording_right observable None old new verdict ready command_outcome cause validated clean t = absurd cause
recording_right observable (Some name) old new verdict ready (ReadFault Recording) (inl rose) validated clean t = absurd (clean rose)
recording_right observable (Some name) old new verdict ready (ReadFault Recording) (inr missing) validated clean t =
    inl (sym (ap (λ (file : Option (List ℕ)). status_of (recording_command_outcome file verdict ready)) missing.1))
recording_right observable (Some name) old new verdict ready (TooLong Recording) cause validated clean t =
    inl (sym (ap status_of (file_long (old.files name) verdict ready (cause t))))
recording_right observable (Some name) old new verdict ready (RecordingInvalid place) cause validated clean t =
    inl (sym (file_invalid (old.files name) verdict place ready (cause t) validated))
recording_right observable (Some name) old new verdict ready Memory cause validated clean t = inr refl
recording_right observable (Some name) old new verdict ready _ cause validated clean t = absurd cause

-- AFTER THE SAVED STATE'S FILE

-- a run whose end is not above its start, and one whose end is
ended_by : (b : Bool) (start : Start) (end : ℕ) → status_of (cond b (Behind start.at) (Done start.at (length (media_from start end).frames) (length (entries_from start end)) (halted_from start end))) ≡ cond b 9 0
ended_by true start end = refl
ended_by false start end = refl

run_status : (start : Start) (end : ℕ) → status_of (run_command_outcome start end) ≡ cond (nat_le end start.at) 9 0
run_status start end = ended_by (nat_le end start.at) start end

file_kept : (file : Option (List ℕ)) (inputs : Inputs) (verdict state : StateVerdict) (end : ℕ) → IsFoundIn file inputs verdict
    → IsFound inputs (unwrap_or file []) state → state_command_outcome file state end ≡ kept_command_outcome verdict end
file_kept None inputs verdict state end found validated = absurd found
file_kept (Some bytes) inputs verdict state end (within, found) validated =
    read_within State state_limit bytes (λ held. kept_command_outcome state end) within
    ∙ ap (λ (s : StateVerdict). kept_command_outcome s end) (one_verdict inputs.cart inputs.recording bytes state verdict validated found)

pub file_state_long : (file : Option (List ℕ)) (state : StateVerdict) (end : ℕ) → IsSomeAnd file (λ bytes. state_limit < length bytes) → state_command_outcome file state end ≡ TooLong State
file_state_long file state end long = read_long State state_limit file (λ held. kept_command_outcome state end) long

-- where a run begins
pub loaded_run : (load : Option (List ℕ)) (files : Files) (inputs : Inputs) (state : StateVerdict) (start : Start) (end : ℕ) → BeginsWith load files inputs start
    → IsLoadValidated load inputs files state → status_of (loaded_command_outcome load files state inputs end) ≡ cond (nat_le end start.at) 9 0
loaded_run None files inputs state start end begins validated =
    run_status (powered_on inputs) end ∙ ap (λ (s : Start). cond (nat_le end s.at) 9 0) (sym begins)
loaded_run (Some name) files inputs state start end begins validated =
    ap status_of (file_kept (files name) inputs (Keeps start) state end begins validated) ∙ run_status start end

-- or why it does not
pub load_right : (observable : Type 0) (load : Option (List ℕ)) (inputs : Inputs) (old new : DepotState) (state : StateVerdict) (end : ℕ) (command_outcome : CommandOutcome)
    → StateCause observable load inputs old new command_outcome → IsLoadValidated load inputs old.files state → ¬ Rose old.read_faults new.read_faults → observable
    → (status_of command_outcome ≡ status_of (loaded_command_outcome load old.files state inputs end)) ⊎ (status_of command_outcome ≡ 10)
load_right observable None inputs old new state end (ReadFault State) cause validated clean t = absurd cause
load_right observable None inputs old new state end (TooLong State) cause validated clean t = absurd cause
load_right observable None inputs old new state end (StateInvalid place) cause validated clean t = absurd cause
load_right observable None inputs old new state end (OtherCart kept given) cause validated clean t = absurd cause
load_right observable None inputs old new state end Memory cause validated clean t = inr refl
load_right observable None inputs old new state end _ cause validated clean t = absurd cause
load_right observable (Some name) inputs old new state end (ReadFault State) (inl rose) validated clean t = absurd (clean rose)
load_right observable (Some name) inputs old new state end (ReadFault State) (inr missing) validated clean t =
    inl (sym (ap (λ (file : Option (List ℕ)). status_of (state_command_outcome file state end)) missing.1))
load_right observable (Some name) inputs old new state end (TooLong State) cause validated clean t = inl (sym (ap status_of (file_state_long (old.files name) state end (cause t))))
load_right observable (Some name) inputs old new state end (StateInvalid place) cause validated clean t =
    inl (sym (ap status_of (file_kept (old.files name) inputs (StateInvalidAt place) state end (cause t) validated)))
load_right observable (Some name) inputs old new state end (OtherCart kept given) cause validated clean t =
    inl (sym (ap status_of (file_kept (old.files name) inputs (OfOther kept given) state end (cause t) validated)))
load_right observable (Some name) inputs old new state end Memory cause validated clean t = inr refl
load_right observable (Some name) inputs old new state end _ cause validated clean t = absurd cause
