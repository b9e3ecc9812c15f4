-- What a status says of the outcome.
use Rattle.std.proofs.Common.{◌≡◌, ◌⊎◌, inl, inr, ℕ, zero, suc, ◌<◌, ◌≤◌, List, [], length, Option, Some, None, refl, sym, subst, ◌∙◌, arith}
use Rattle.std.specs.Prelude.{IsSomeAnd, unwrap_or}
use Rattle.md_outer.specs.Outside.{DepotState, Files, Rose, SinkState, bytes_of}
use Rattle.md_pads.specs.Recording.{InvalidAt, IsSpelled}
use Rattle.md_debug.specs.declared.fault.DebugFault.{DebugFault}
use Rattle.md_vgm.specs.declared.fault.VgmFault.{VgmFault}
use Rattle.md_rollback.specs.declared.line_fault.LineFault.{LineFault}
use Rattle.state_laws.specs.Verdicts.{OfOther, StateInvalidAt}
use Rattle.md_word.specs.Clock.{last_cycle}
use Rattle.md_args.specs.Files.{input_of}
use Rattle.md_args.specs.Words.{Command, Debug, Debugging, Info, Run, RunCart, assembling_in, conversion_in, debugging_in, end_of, rolling_in, run_in}
use Rattle.md_args.specs.declared.files.Input.{Input}
use Rattle.md_args.specs.declared.files.Input.TheVariants.{First, Recording, State}
use Rattle.md_args.specs.declared.files.Output.{Output}
use Rattle.md_top.specs.Answers.{IsBehind, PutsLine, Reports, Shows}
use Rattle.md_top.specs.Assemblies.{IsRefusedSource}
use Rattle.md_top.specs.Conversions.{IsRefusedInput}
use Rattle.md_top.specs.Debuggings.{IsRefusedScript, ShowsReplies}
use Rattle.md_top.specs.CommandOutcomes.{InfoEnds, RunEnds, status_of}
use Rattle.md_top.specs.Inputs.{CartCause, IsMissing, IsUnread, RecordingCause, recording_limit}
use Rattle.md_top.specs.Loads.{IsLoadFound}
use Rattle.md_top.specs.Rollings.{IsRefusedLine}
use Rattle.md_top.specs.Texts.{text_of}
use Rattle.md_top.specs.declared.command_outcome.CommandOutcome.{CommandOutcome}
use Rattle.md_top.specs.declared.command_outcome.CommandOutcome.TheVariants.{Shown, Done, Played, Usage, ReadFault, WriteFault, Short, NoMark, RecordingInvalid, StateInvalid, OtherCart, Behind, Memory, ScriptMemory, TooFar, ReplyFault, TooLong, ScriptRefused, SourceRefused, InputRefused, LineRefused}
use Rattle.run_command.proofs.Ends.{rose_later}

-- what was shown before lowers no count of faults
replies_later : (observable sink : Type 0) (words : Debugging) (files : Files) (command_outcome : CommandOutcome) (out between : SinkState) → ShowsReplies observable sink words files command_outcome out between
    → out.faults ≤ between.faults
replies_later observable sink words files Played out between shown = shown.2.later
replies_later observable sink words files (ScriptRefused line fault) out between shown = shown.2.later
replies_later observable sink words files ScriptMemory out between shown = shown.2.later
replies_later observable sink words files ReplyFault out between shown = shown.2.later
replies_later observable sink words files _ out between shown = subst (λ (s : SinkState). out.faults ≤ s.faults) (sym shown) (omega arith)

shown_later : (observable sink : Type 0) (command : Option Command) (files : Files) (command_outcome : CommandOutcome) (out between : SinkState) → Shows observable sink command files command_outcome out between
    → out.faults ≤ between.faults
shown_later observable sink (Some (Debug words)) files command_outcome out between shown = replies_later observable sink words files command_outcome out between shown
shown_later observable sink _ files command_outcome out between shown = subst (λ (s : SinkState). out.faults ≤ s.faults) (sym shown) (omega arith)

-- the status is the outcome's, but where that is 0 and the sink failed
abbrev pub IsOf : ℕ → CommandOutcome → SinkState → SinkState → Type 0
IsOf status command_outcome out out' = (status ≡ status_of command_outcome) ⊎ ((status_of command_outcome ≡ 0) × (status ≡ 13) × Rose out.faults out'.faults)

line_put : (observable : Type 0) (text : List ℕ) (of : ℕ) (out out' : SinkState) (status : ℕ) → PutsLine observable text of out out' status
    → (status ≡ of) ⊎ ((of ≡ 0) × (status ≡ 13) × Rose out.faults out'.faults)
line_put observable text of out out' status (inl put) = inl put.0
line_put observable text zero out out' status (inr part) = inr (refl, part.0, part.1.rose)
line_put observable text (suc n) out out' status (inr part) = inl part.0

pub reported_then : (sink : Type 0) (command : Option Command) (command_outcome : CommandOutcome) (between out' : SinkState) (status : ℕ) → Reports sink command command_outcome between out' status
    → IsOf status command_outcome between out'
reported_then sink command Played out out' status reports = inl reports.0
reported_then sink command ReplyFault out out' status reports = inl reports.0
reported_then sink command other out out' status reports = line_put sink (text_of command other) (status_of other) out out' status reports

pub reported : (observable sink : Type 0) (command : Option Command) (files : Files) (command_outcome : CommandOutcome) (out between out' : SinkState) (status : ℕ)
    → Shows observable sink command files command_outcome out between → Reports sink command command_outcome between out' status → IsOf status command_outcome out out'
reported observable sink command files command_outcome out between out' status shown reports = elim (reported_then sink command command_outcome between out' status reports) [
  | inl is ↦ inl is
  | inr part ↦
      inr (part.0, part.1, rose_later out.faults between.faults out'.faults (shown_later observable sink command files command_outcome out between shown) part.2)
]

-- the sink failed within a reply
pub reply_failed : (observable sink : Type 0) (words : Debugging) (files : Files) (command_outcome : CommandOutcome) (out between out' : SinkState) (status : ℕ)
    → ShowsReplies observable sink words files command_outcome out between → Reports sink (Some (Debug words)) command_outcome between out' status → command_outcome ≡ ReplyFault → Rose out.faults out'.faults
reply_failed observable sink words files command_outcome out between out' status shown reports is =
    let rose : Rose out.faults between.faults = (subst (λ (e : CommandOutcome). ShowsReplies observable sink words files e out between) is shown).2.failed in
    let same : out' ≡ between = (subst (λ (e : CommandOutcome). Reports sink (Some (Debug words)) e between out' status) is reports).1 in
    subst (λ (s : SinkState). Rose out.faults s.faults) (sym same) rose

-- a status other than 13 is the outcome's
pub of_command_outcome : (status : ℕ) (command_outcome : CommandOutcome) (out out' : SinkState) (n : ℕ) → IsOf status command_outcome out out' → status ≡ n → (n ≡ 13 → ⊥) → status_of command_outcome ≡ n
of_command_outcome status command_outcome out out' n (inl same) is other = sym same ∙ is
of_command_outcome status command_outcome out out' n (inr part) is other = absurd (other (sym is ∙ part.1))

-- THE ENDING OF A STATUS

pub is_usage : (command_outcome : CommandOutcome) → status_of command_outcome ≡ 2 → command_outcome ≡ Usage
is_usage Usage is = refl
is_usage _ is = absurd (omega (arith, is))

pub is_read_fault : (command_outcome : CommandOutcome) → status_of command_outcome ≡ 3 → (which : Input) × (command_outcome ≡ ReadFault which)
is_read_fault (ReadFault which) is = (which, refl)
is_read_fault _ is = absurd (omega (arith, is))

pub is_write_fault : (command_outcome : CommandOutcome) → status_of command_outcome ≡ 4 → (which : Output) × (command_outcome ≡ WriteFault which)
is_write_fault (WriteFault which) is = (which, refl)
is_write_fault _ is = absurd (omega (arith, is))

pub is_invalid : (command_outcome : CommandOutcome) → status_of command_outcome ≡ 6 → (place : ℕ) × (command_outcome ≡ RecordingInvalid place)
is_invalid (RecordingInvalid place) is = (place, refl)
is_invalid _ is = absurd (omega (arith, is))

pub is_state_invalid : (command_outcome : CommandOutcome) → status_of command_outcome ≡ 7 → (place : ℕ) × (command_outcome ≡ StateInvalid place)
is_state_invalid (StateInvalid place) is = (place, refl)
is_state_invalid _ is = absurd (omega (arith, is))

pub is_other_cart : (command_outcome : CommandOutcome) → status_of command_outcome ≡ 8 → (kept : List ℕ) × (given : List ℕ) × (command_outcome ≡ OtherCart kept given)
is_other_cart (OtherCart kept given) is = (kept, given, refl)
is_other_cart _ is = absurd (omega (arith, is))

pub is_behind : (command_outcome : CommandOutcome) → status_of command_outcome ≡ 9 → (from : ℕ) × (command_outcome ≡ Behind from)
is_behind (Behind from) is = (from, refl)
is_behind _ is = absurd (omega (arith, is))

pub is_far : (command_outcome : CommandOutcome) → status_of command_outcome ≡ 11 → command_outcome ≡ TooFar
is_far TooFar is = refl
is_far _ is = absurd (omega (arith, is))

pub is_reply_fault : (command_outcome : CommandOutcome) → status_of command_outcome ≡ 13 → command_outcome ≡ ReplyFault
is_reply_fault ReplyFault is = refl
is_reply_fault _ is = absurd (omega (arith, is))

pub is_script_refused : (command_outcome : CommandOutcome) → status_of command_outcome ≡ 15 → (line : ℕ) × (fault : DebugFault) × (command_outcome ≡ ScriptRefused line fault)
is_script_refused (ScriptRefused line fault) is = (line, fault, refl)
is_script_refused _ is = absurd (omega (arith, is))

pub is_source_refused : (command_outcome : CommandOutcome) → status_of command_outcome ≡ 16 → (line : ℕ) × (kind : ℕ) × (command_outcome ≡ SourceRefused line kind)
is_source_refused (SourceRefused line kind) is = (line, kind, refl)
is_source_refused _ is = absurd (omega (arith, is))

pub is_input_refused : (command_outcome : CommandOutcome) → status_of command_outcome ≡ 17 → (fault : VgmFault) × (command_outcome ≡ InputRefused fault)
is_input_refused (InputRefused fault) is = (fault, refl)
is_input_refused _ is = absurd (omega (arith, is))

pub is_line_refused : (command_outcome : CommandOutcome) → status_of command_outcome ≡ 18 → (line : ℕ) × (fault : LineFault) × (command_outcome ≡ LineRefused line fault)
is_line_refused (LineRefused line fault) is = (line, fault, refl)
is_line_refused _ is = absurd (omega (arith, is))

-- WHAT AN ENDING SAYS

-- of a command that ends so
abbrev pub Says : Type 0 → Command → DepotState → DepotState → CommandOutcome → Type 0
Says observable command old new Usage = ⊥
Says observable command old new (ReadFault which) = Rose old.read_faults new.read_faults ⊎ (observable × IsMissing command old.files)
Says observable command old new (WriteFault which) = Rose old.write_faults new.write_faults
Says observable command old new (RecordingInvalid place) = IsSomeAnd (input_of command Recording) (λ name. observable → ¬ IsSpelled (bytes_of old.files name))
Says observable command old new (StateInvalid place) = IsSomeAnd (run_in command) (λ run. (place : ℕ) × IsLoadFound observable run old.files (StateInvalidAt place))
Says observable command old new (OtherCart kept given) = IsSomeAnd (run_in command) (λ run. (kept : List ℕ) × (given : List ℕ) × IsLoadFound observable run old.files (OfOther kept given))
Says observable command old new (Behind from) = IsBehind observable command old.files
Says observable command old new TooFar = last_cycle < end_of command
Says observable command old new (ScriptRefused line fault) = IsSomeAnd (debugging_in command) (λ words. IsRefusedScript observable words old.files)
Says observable command old new (SourceRefused line kind) = IsSomeAnd (assembling_in command) (λ words. IsRefusedSource observable words old.files)
Says observable command old new (InputRefused fault) = IsSomeAnd (conversion_in command) (λ conversion. IsRefusedInput observable conversion old.files)
Says observable command old new (LineRefused line fault) = IsSomeAnd (rolling_in command) (λ words. IsRefusedLine observable words old.files)
Says observable command old new command_outcome = Unit {0}

-- a file that is missing is an input's
pub missing : (observable : Type 0) (command : Command) (files : Files) {P Q : Type 0} → (Q → IsMissing command files) → P ⊎ (observable × Q) → P ⊎ (observable × IsMissing command files)
missing observable command files which (inl rose) = inl rose
missing observable command files which (inr (t, none)) = inr (t, which none)

-- the cartridge's causes
pub cart_says : (observable : Type 0) (command : Command) (rom : List ℕ) (old new : DepotState) (command_outcome : CommandOutcome) → input_of command First ≡ Some rom → CartCause observable rom old new command_outcome
    → Says observable command old new command_outcome
cart_says observable command rom old new (ReadFault First) is cause =
    missing observable command old.files (λ none. (First, subst (λ (file : Option (List ℕ)). IsSomeAnd file (λ name. old.files name ≡ None)) (sym is) none)) cause
cart_says observable command rom old new (TooLong First) is cause = tt
cart_says observable command rom old new Short is cause = tt
cart_says observable command rom old new NoMark is cause = tt
cart_says observable command rom old new Memory is cause = tt
cart_says observable command rom old new _ is cause = absurd cause

pub info_says : (observable : Type 0) (rom : List ℕ) (old new : DepotState) (command_outcome : CommandOutcome) → InfoEnds observable rom old new command_outcome → Says observable (Info rom) old new command_outcome
info_says observable rom old new (Shown lines) cause = tt
info_says observable rom old new other cause = cart_says observable (Info rom) rom old new other refl cause

-- those of a run
missing_recording : (observable : Type 0) (name : Option (List ℕ)) (old new : DepotState) → RecordingCause observable name old new (ReadFault Recording)
    → Rose old.read_faults new.read_faults ⊎ (observable × IsSomeAnd name (λ name. old.files name ≡ None))
missing_recording observable None old new cause = absurd cause
missing_recording observable (Some name) old new cause = cause

missing_state : (observable : Type 0) (name : Option (List ℕ)) (old new : DepotState) → IsSomeAnd name (λ name. IsUnread observable name old new)
    → Rose old.read_faults new.read_faults ⊎ (observable × IsSomeAnd name (λ name. old.files name ≡ None))
missing_state observable None old new cause = absurd cause
missing_state observable (Some name) old new cause = cause

-- a file that is invalid at an offset spells no recording
not_spelled : (file : Option (List ℕ)) (place : ℕ) → IsSomeAnd file (λ bytes. (length bytes ≤ recording_limit) × InvalidAt bytes place) → ¬ IsSpelled (unwrap_or file [])
not_spelled None place invalid = absurd invalid
not_spelled (Some bytes) place invalid = invalid.1.none

invalid_recording : (observable : Type 0) (name : Option (List ℕ)) (old new : DepotState) (place : ℕ) → RecordingCause observable name old new (RecordingInvalid place)
    → IsSomeAnd name (λ name. observable → ¬ IsSpelled (bytes_of old.files name))
invalid_recording observable None old new place cause = absurd cause
invalid_recording observable (Some name) old new place cause = λ t. not_spelled (old.files name) place (cause t)

pub run_says : (observable : Type 0) (run : Run) (old new : DepotState) (command_outcome : CommandOutcome) → RunEnds observable run old new command_outcome → Says observable (RunCart run) old new command_outcome
run_says observable run old new Memory cause = tt
run_says observable run old new TooFar cause = cause
run_says observable run old new (Behind from) (near, following, may, cause) = (from, may, following, cause)
run_says observable run old new (Done from frames accesses halted) cause = tt
run_says observable run old new (WriteFault which) cause = cause.2.1
run_says observable run old new (ReadFault Recording) cause =
    missing observable (RunCart run) old.files (λ none. (Recording, none)) (missing_recording observable run.recording old new cause.1.1)
run_says observable run old new (ReadFault State) cause = missing observable (RunCart run) old.files (λ none. (State, none)) (missing_state observable run.load old new cause.1.2)
run_says observable run old new (TooLong Recording) cause = tt
run_says observable run old new (TooLong State) cause = tt
run_says observable run old new (RecordingInvalid place) cause = invalid_recording observable run.recording old new place cause.1.1
run_says observable run old new (StateInvalid place) (near, cause) = (place, cause)
run_says observable run old new (OtherCart kept given) (near, cause) = (kept, given, cause)
run_says observable run old new other cause = cart_says observable (RunCart run) run.rom old new other refl cause.1

-- where the end is too far no other outcome comes
pub run_far : (observable : Type 0) (run : Run) (old new : DepotState) (command_outcome : CommandOutcome) → RunEnds observable run old new command_outcome → last_cycle < run.cycles
    → (status_of command_outcome ≡ 11) ⊎ (status_of command_outcome ≡ 10)
run_far observable run old new TooFar cause far = inl refl
run_far observable run old new Memory cause far = inr refl
run_far observable run old new (Done from frames accesses halted) cause far = absurd (omega (arith, far, cause.0.1))
run_far observable run old new (WriteFault which) cause far = absurd (omega (arith, far, cause.0.1))
run_far observable run old new (ReadFault State) cause far = absurd (omega (arith, far, cause.0))
run_far observable run old new (TooLong State) cause far = absurd (omega (arith, far, cause.0))
run_far observable run old new _ cause far = absurd (omega (arith, far, cause.0))
