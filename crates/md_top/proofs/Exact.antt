-- Without a fault the outcome is the right one, or memory ran out.
use Rattle.std.proofs.Common.{◌≡◌, ◌⊎◌, inl, inr, ℕ, ◌≤◌, List, Some, refl, sym, ap, ◌∙◌, arith}
use Rattle.rom_header.specs.Header.{header_lines}
use Rattle.md_outer.specs.Outside.{DepotState, Files, Rose}
use Rattle.md_top.specs.Inputs.{IsAccepted, IsValidated, RecordingCause, Verdict, cart_of}
use Rattle.md_word.specs.Clock.{last_cycle}
use Rattle.md_top.specs.Loads.{IsStateValidated}
use Rattle.state_laws.specs.Verdicts.{Keeps, StateVerdict}
use Rattle.md_top.specs.CommandOutcomes.{InfoEnds, RunEnds, status_of}
use Rattle.md_top.specs.Refusals.{Findings, accepted_command_outcome, asked_command_outcome, file_command_outcome, loaded_command_outcome, right_completion}
use Rattle.md_vgm.specs.Outcomes.{Outcome}
use Rattle.md_args.specs.Words.{Info, Run}
use Rattle.md_args.specs.declared.files.Input.TheVariants.{Recording, State}
use Rattle.md_top.specs.declared.command_outcome.CommandOutcome.{CommandOutcome}
use Rattle.md_top.specs.declared.command_outcome.CommandOutcome.TheVariants.{Shown, Done, ReadFault, WriteFault, RecordingInvalid, StateInvalid, OtherCart, Behind, Memory, TooFar, TooLong}
use Rattle.md_top.proofs.Right.{cart_right, recording_right, right_accepted}
use Rattle.md_top.proofs.RunsRight.{IsRunRight, cart_always, load_right_with, recording_always, right_after, right_after_cart, right_done, right_far, right_load, right_near, right_with, right_without, state_validated}

-- the outcome is the right one, or memory runs out
pub info_right : (observable : Type 0) (rom : List ℕ) (old new : DepotState) (verdict : Verdict) (found : Findings) (outcome : Outcome) (command_outcome : CommandOutcome) → InfoEnds observable rom old new command_outcome
    → ¬ Rose old.read_faults new.read_faults → observable → (status_of command_outcome ≡ status_of (right_completion (Some (Info rom)) old.files verdict found outcome)) ⊎ (status_of command_outcome ≡ 10)
info_right observable rom old new verdict found outcome (Shown lines) cause clean t =
    inl (sym (ap status_of (right_accepted (old.files rom) (Shown (header_lines (cart_of rom old.files))) (cause t).0)))
info_right observable rom old new verdict found outcome other cause clean t = cart_right observable rom old new (Shown (header_lines (cart_of rom old.files))) other cause clean t

-- after the cartridge's file
run_near : (run : Run) (files : Files) (verdict : Verdict) (state : StateVerdict) (command_outcome : CommandOutcome) → run.cycles ≤ last_cycle
    → (status_of command_outcome ≡ status_of (file_command_outcome (files run.rom) (accepted_command_outcome run files verdict state))) ⊎ (status_of command_outcome ≡ 10)
    → (status_of command_outcome ≡ status_of (asked_command_outcome run files verdict state)) ⊎ (status_of command_outcome ≡ 10)
run_near run files verdict state command_outcome near (inl is) = inl (is ∙ sym (ap status_of (right_near run files verdict state near)))
run_near run files verdict state command_outcome near (inr memory) = inr memory

-- after the recording's file
run_recorded : (observable : Type 0) (run : Run) (old new : DepotState) (verdict : Verdict) (state : StateVerdict) (command_outcome : CommandOutcome) → run.cycles ≤ last_cycle → IsAccepted (old.files run.rom)
    → RecordingCause observable run.recording old new command_outcome → IsValidated run.recording old.files verdict → ¬ Rose old.read_faults new.read_faults → observable
    → (status_of command_outcome ≡ status_of (asked_command_outcome run old.files verdict state)) ⊎ (status_of command_outcome ≡ 10)
run_recorded observable run old new verdict state command_outcome near accepted cause is clean t =
    same (recording_right observable run.recording old new verdict (λ recording. loaded_command_outcome run.load old.files state (record { cart = cart_of run.rom old.files; recording = recording; pal = run.pal }) run.cycles) command_outcome cause is clean t)
  where
    same : (status_of command_outcome ≡ status_of (accepted_command_outcome run old.files verdict state)) ⊎ (status_of command_outcome ≡ 10)
        → (status_of command_outcome ≡ status_of (asked_command_outcome run old.files verdict state)) ⊎ (status_of command_outcome ≡ 10)
    same (inl right) = inl (right ∙ sym (ap status_of (right_after_cart run old.files verdict state near accepted)))
    same (inr memory) = inr memory

pub run_right : (observable : Type 0) (run : Run) (old new : DepotState) (verdict : Verdict) (state : StateVerdict) (command_outcome : CommandOutcome) → RunEnds observable run old new command_outcome
    → IsValidated run.recording old.files verdict → IsStateValidated (Some run) old.files verdict state → ¬ Rose old.read_faults new.read_faults → ¬ Rose old.write_faults new.write_faults → observable
    → (status_of command_outcome ≡ status_of (asked_command_outcome run old.files verdict state)) ⊎ (status_of command_outcome ≡ 10)
run_right observable run old new verdict state (Done from frames accesses halted) (end, may, cause) is validated reads writes t =
    let found = cause t in inl (sym (right_done run old.files verdict state found.start end.1 found.above found.begins is validated))
run_right observable run old new verdict state TooFar cause is validated reads writes t = inl (sym (ap status_of (right_far run old.files verdict state cause)))
run_right observable run old new verdict state (Behind from) (near, following, may, cause) is validated reads writes t =
    let found = cause t in inl (sym (right_after run old.files verdict state found.0 near (omega (arith, following, found.2)) found.1 is validated))
run_right observable run old new verdict state (WriteFault which) cause is validated reads writes t = absurd (writes cause.2.1)
run_right observable run old new verdict state (ReadFault Recording) (near, (accepted, cause)) is validated reads writes t = run_recorded observable run old new verdict state (ReadFault Recording) near (accepted t) cause is reads t
run_right observable run old new verdict state (TooLong Recording) (near, (accepted, cause)) is validated reads writes t = run_recorded observable run old new verdict state (TooLong Recording) near (accepted t) cause is reads t
run_right observable run old new verdict state (RecordingInvalid place) (near, (accepted, cause)) is validated reads writes t =
    run_recorded observable run old new verdict state (RecordingInvalid place) near (accepted t) cause is reads t
run_right observable run old new verdict state (ReadFault State) (near, cause) is validated reads writes t = right_load observable run old new verdict state (ReadFault State) near cause is validated reads t
run_right observable run old new verdict state (TooLong State) (near, cause) is validated reads writes t = right_load observable run old new verdict state (TooLong State) near cause is validated reads t
run_right observable run old new verdict state (StateInvalid place) (near, cause) is validated reads writes t =
    right_load observable run old new verdict state (StateInvalid place) near cause is validated reads t
run_right observable run old new verdict state (OtherCart kept given) (near, cause) is validated reads writes t =
    right_load observable run old new verdict state (OtherCart kept given) near cause is validated reads t
run_right observable run old new verdict state Memory cause is validated reads writes t = inr refl
run_right observable run old new verdict state other cause is validated reads writes t =
    run_near run old.files verdict state other cause.0 (cart_right observable run.rom old new (accepted_command_outcome run old.files verdict state) other cause.1 reads t)

-- the same, with the verdict on its saved state that it depends on
run_recorded_with : (observable : Type 0) (run : Run) (old new : DepotState) (verdict : Verdict) (command_outcome : CommandOutcome) → run.cycles ≤ last_cycle → IsAccepted (old.files run.rom)
    → RecordingCause observable run.recording old new command_outcome → IsValidated run.recording old.files verdict → ¬ Rose old.read_faults new.read_faults → observable
    → IsRunRight run old.files verdict (status_of command_outcome) ⊎ (status_of command_outcome ≡ 10)
run_recorded_with observable run old new verdict command_outcome near accepted cause is clean t = elim (recording_always observable run.recording old new verdict command_outcome cause is clean t) [
  | inl always ↦ inl (
      right_without run old.files verdict always.0 command_outcome
      (λ state. right_after_cart run old.files verdict state near accepted
      ∙ always.1 (λ recording. loaded_command_outcome run.load old.files state (record { cart = cart_of run.rom old.files; recording = recording; pal = run.pal }) run.cycles)) always.2)
  | inr memory ↦ inr memory
]

pub run_right_with : (observable : Type 0) (run : Run) (old new : DepotState) (verdict : Verdict) (command_outcome : CommandOutcome) → RunEnds observable run old new command_outcome
    → IsValidated run.recording old.files verdict → ¬ Rose old.read_faults new.read_faults → ¬ Rose old.write_faults new.write_faults → observable
    → IsRunRight run old.files verdict (status_of command_outcome) ⊎ (status_of command_outcome ≡ 10)
run_right_with observable run old new verdict (Done from frames accesses halted) (end, may, cause) is reads writes t =
    let begins = (cause t).begins in
    let validated = state_validated run old.files verdict begins.inputs (cause t).start begins.are is begins.with in
    right_with run old.files verdict (Keeps (cause t).start) 0 validated
    (run_right observable run old new verdict (Keeps (cause t).start) (Done from frames accesses halted) (end, may, cause) is validated reads writes t)
run_right_with observable run old new verdict TooFar cause is reads writes t =
    inl (right_without run old.files verdict TooFar TooFar (λ state. right_far run old.files verdict state cause) refl)
run_right_with observable run old new verdict (Behind from) (near, following, may, cause) is reads writes t =
    let begins = (cause t).1 in
    let validated = state_validated run old.files verdict begins.inputs (cause t).0 begins.are is begins.with in
    right_with run old.files verdict (Keeps (cause t).0) 9 validated
    (run_right observable run old new verdict (Keeps (cause t).0) (Behind from) (near, following, may, cause) is validated reads writes t)
run_right_with observable run old new verdict (WriteFault which) cause is reads writes t = absurd (writes cause.2.1)
run_right_with observable run old new verdict (ReadFault Recording) (near, (accepted, cause)) is reads writes t = run_recorded_with observable run old new verdict (ReadFault Recording) near (accepted t) cause is reads t
run_right_with observable run old new verdict (TooLong Recording) (near, (accepted, cause)) is reads writes t = run_recorded_with observable run old new verdict (TooLong Recording) near (accepted t) cause is reads t
run_right_with observable run old new verdict (RecordingInvalid place) (near, (accepted, cause)) is reads writes t =
    run_recorded_with observable run old new verdict (RecordingInvalid place) near (accepted t) cause is reads t
run_right_with observable run old new verdict (ReadFault State) (near, cause) is reads writes t = load_right_with observable run old new verdict (ReadFault State) near cause is reads t
run_right_with observable run old new verdict (TooLong State) (near, cause) is reads writes t = load_right_with observable run old new verdict (TooLong State) near cause is reads t
run_right_with observable run old new verdict (StateInvalid place) (near, cause) is reads writes t = load_right_with observable run old new verdict (StateInvalid place) near cause is reads t
run_right_with observable run old new verdict (OtherCart kept given) (near, cause) is reads writes t = load_right_with observable run old new verdict (OtherCart kept given) near cause is reads t
run_right_with observable run old new verdict Memory cause is reads writes t = inr refl
run_right_with observable run old new verdict other cause is reads writes t = elim (cart_always observable run.rom old new other cause.1 reads t) [
  | inl always ↦ inl (
      right_without run old.files verdict always.0 other
      (λ state. right_near run old.files verdict state cause.0 ∙ always.1 (accepted_command_outcome run old.files verdict state)) always.2)
  | inr memory ↦ inr memory
]
