-- What a command rests on of what is found, and the files of other names than its outputs'.
use Rattle.std.proofs.Common.{◌≡◌, ◌≢◌, ◌⊎◌, inl, inr, ℕ, List, [], Option, Some, None, refl, ap, subst, ◌∙◌}
use Rattle.md_outer.specs.Outside.{Files}
use Rattle.md_outer.proofs.WrittenFiles.{with_file-other}
use Rattle.md_top.specs.Answers.{AreFindingsRight, IsRight}
use Rattle.md_top.specs.Inputs.{Verdict}
use Rattle.state_laws.specs.Verdicts.{StateInvalidAt}
use Rattle.md_top.specs.CommandOutcomes.{RunFiles, status_of}
use Rattle.md_top.specs.Refusals.{Findings, right_completion}
use Rattle.run_command.specs.Outputs.{Parts, with_part, written}
use Rattle.md_vgm.specs.Outcomes.{Outcome}
use Rattle.md_args.specs.Files.{run_output}
use Rattle.md_args.specs.Words.{Command, Debug, Debugging, Rollback, Rolling, Run, RunCart}
use Rattle.md_args.specs.declared.files.Output.{Output}
use Rattle.md_args.specs.declared.files.Output.TheVariants.{Frames, Journal, Save, Sound}
use Rattle.md_top.specs.Debuggings.{Scripted}
use Rattle.debug_text.specs.declared.outcome.ScriptOutcome.TheVariants.{Obeyed}
use Rattle.md_rollback.specs.declared.rolled.Completion.TheVariants as completion
use Rattle.md_top.specs.declared.command_outcome.CommandOutcome.{CommandOutcome}
use Rattle.md_top.specs.declared.command_outcome.CommandOutcome.TheVariants.{Done, WriteFault, Memory, ReplyFault}
use Rattle.md_top.proofs.Debuggings.{IsDebugRight}
use Rattle.md_top.proofs.RunsRight.{IsRunRight}
use Rattle.md_top.proofs.Rollings.{IsRollRight}

-- what is found where nothing is looked at
no_script : Scripted
no_script = record { replies = []; command_outcome = Obeyed }

pub none_found : Findings
none_found = record { state = StateInvalidAt 0; script = no_script; completion = completion.NoMemory }

-- what a command rests on of what is found: its saved state, its script, its lines, or nothing
pub right_run : (run : Run) (files : Files) (verdict : Verdict) (outcome : Outcome) (status : ℕ) → IsRunRight run files verdict status ⊎ (status ≡ 10)
    → IsRight (Some (RunCart run)) files verdict outcome status ⊎ (status ≡ 10)
right_run run files verdict outcome status (inl (state, inl validated, is)) =
    inl (record { state = state; script = no_script; completion = completion.NoMemory }, inl (validated, tt, tt), is)
right_run run files verdict outcome status (inl (state, inr none, is)) =
    inl (record { state = state; script = no_script; completion = completion.NoMemory }, inr (λ other. none other.state), is)
right_run run files verdict outcome status (inr memory) = inr memory

pub right_script : (words : Debugging) (files : Files) (verdict : Verdict) (outcome : Outcome) (status : ℕ) → IsDebugRight words files status ⊎ (status ≡ 10)
    → IsRight (Some (Debug words)) files verdict outcome status ⊎ (status ≡ 10)
right_script words files verdict outcome status (inl (script, inl scripted, is)) =
    inl (record { state = StateInvalidAt 0; script = script; completion = completion.NoMemory }, inl (tt, scripted, tt), is)
right_script words files verdict outcome status (inl (script, inr none, is)) =
    inl (record { state = StateInvalidAt 0; script = script; completion = completion.NoMemory }, inr (λ other. none other.script), is)
right_script words files verdict outcome status (inr memory) = inr memory

pub right_lines : (words : Rolling) (files : Files) (verdict : Verdict) (outcome : Outcome) (status : ℕ) → IsRollRight words files status ⊎ (status ≡ 10)
    → IsRight (Some (Rollback words)) files verdict outcome status ⊎ (status ≡ 10)
right_lines words files verdict outcome status (inl (to, inl found, is)) =
    inl (record { state = StateInvalidAt 0; script = no_script; completion = to }, inl (tt, tt, found), is)
right_lines words files verdict outcome status (inl (to, inr none, is)) =
    inl (record { state = StateInvalidAt 0; script = no_script; completion = to }, inr (λ other. none other.completion), is)
right_lines words files verdict outcome status (inr memory) = inr memory

pub right_other : (command : Option Command) (files : Files) (verdict : Verdict) (outcome : Outcome) (status : ℕ) → AreFindingsRight command files verdict outcome none_found
    → (status ≡ status_of (right_completion command files verdict none_found outcome)) ⊎ (status ≡ 10) → IsRight command files verdict outcome status ⊎ (status ≡ 10)
right_other command files verdict outcome status is (inl right) = inl (none_found, is, right)
right_other command files verdict outcome status is (inr memory) = inr memory

-- a command with nothing wrong
pub ready_ends : (status right : ℕ) → (status ≡ right) ⊎ (status ≡ 10) → right ≡ 0 → (status ≡ 0) ⊎ (status ≡ 10)
ready_ends status right (inl is) done = inl (is ∙ done)
ready_ends status right (inr memory) done = inr memory

-- no other command puts replies
pub no_reply : {P : Type 0} (Ends : CommandOutcome → Type 0) (command_outcome : CommandOutcome) → Ends command_outcome → (Ends ReplyFault → ⊥) → command_outcome ≡ ReplyFault → P
no_reply Ends command_outcome cause none is = absurd (none (subst Ends is cause))

-- FILES OF OTHER NAMES

-- an output leaves the files of other names
part_other : (files : Files) (output written_bytes : Option (List ℕ)) (name : List ℕ) → output ≢ Some name → with_part files output written_bytes name ≡ files name
part_other files output None name differ = refl
part_other files None (Some bytes) name differ = refl
part_other files (Some output) (Some bytes) name differ = with_file-other files output bytes name (λ same. differ (ap Some same))

written_other : (run : Run) (old : Files) (parts : Parts) (name : List ℕ) → ((which : Output) → run_output run which ≢ Some name) → written run old parts name ≡ old name
written_other run old parts name apart =
    part_other (with_part (with_part (with_part old run.frames parts.frames) run.sound parts.sound) run.journal parts.journal) run.save parts.state name (apart Save)
    ∙ part_other (with_part (with_part old run.frames parts.frames) run.sound parts.sound) run.journal parts.journal name (apart Journal)
    ∙ part_other (with_part old run.frames parts.frames) run.sound parts.sound name (apart Sound)
    ∙ part_other old run.frames parts.frames name (apart Frames)

pub leaves_other : (run : Run) (old new : Files) (command_outcome : CommandOutcome) → RunFiles run old new command_outcome → (name : List ℕ) → ((which : Output) → run_output run which ≢ Some name)
    → new name ≡ old name
leaves_other run old new (Done from frames accesses halted) (parts, is) name apart = ap (λ (files : Files). files name) is ∙ written_other run old parts name apart
leaves_other run old new (WriteFault which) (parts, is) name apart = ap (λ (files : Files). files name) is ∙ written_other run old parts name apart
leaves_other run old new Memory leaves name apart = ap (λ (files : Files). files name) leaves.files ∙ written_other run old leaves.parts name apart
leaves_other run old new _ leaves name apart = ap (λ (files : Files). files name) leaves
