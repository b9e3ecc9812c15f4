-- How a run ends, as the outcome of its command.
use Rattle.std.proofs.Common.{◌≡◌, ◌<◌, ◌≤◌, subst, ◌∙◌}
use Rattle.md_outer.specs.Outside.{DepotState, Files, GoesOn}
use Rattle.md_word.specs.Clock.{last_cycle}
use Rattle.md_chips.specs.Starts.{Start}
use Rattle.md_args.specs.Words.{Run}
use Rattle.md_args.specs.declared.files.Input.TheVariants.{State}
use Rattle.run_command.specs.Limits.{IsEnd}
use Rattle.run_command.specs.Outputs.{LeavesParts, all_of, nothing}
use Rattle.run_command.specs.RunOutcomes.{IsUnwritten, RunCause, RunLeaves}
use Rattle.run_command.specs.Runs.{pieces_of}
use Rattle.run_command.specs.declared.run_outcome.RunOutcome.{RunOutcome}
use Rattle.run_command.specs.declared.run_outcome.RunOutcome.TheVariants as run_outcome
use Rattle.run_command.proofs.Ends.{cause-before, no_part, untouched, unwritten-cause, unwritten-leaves}
use Rattle.md_top.specs.CommandOutcomes.{RunEnds, RunFiles, RunsFrom, of_run}
use Rattle.md_top.specs.Loads.{Begins, LoadCause, MayBeginAt}
use Rattle.md_top.specs.declared.command_outcome.CommandOutcome.{CommandOutcome}
use Rattle.md_top.specs.declared.command_outcome.CommandOutcome.TheVariants.{Done, Memory, OtherCart, ReadFault, StateInvalid, TooLong, WriteFault}

pub unchanged : (run : Run) (old new : Files) (command_outcome : CommandOutcome) → new ≡ old → RunFiles run old new command_outcome
unchanged run old new (Done from frames accesses halted) same = (no_part, same)
unchanged run old new (WriteFault which) same = (no_part, same)
unchanged run old new Memory same = untouched run old new same
unchanged run old new _ same = same

-- a run that found its start; it found it there alone
abbrev pub AreOne : Type 0
AreOne = (run : Run) (files : Files) (a b : Start) → Begins run files a → Begins run files b → a ≡ b

run-from : (run : Run) (start : Start) (old mid new : DepotState) (outcome : RunOutcome) → AreOne → Begins run old.files start → start.at < run.cycles → GoesOn old mid
    → RunCause start run mid new outcome → RunLeaves start run old.files new.files outcome → RunsFrom run old new outcome
run-from run start old mid new outcome one begins ahead on cause leaves = record {
  start = start;
  begins = begins;
  alone = λ other also. one run old.files other start also begins;
  above = ahead;
  cause = cause-before start run old mid new outcome on cause;
  files = leaves;
}

pub end-of-run : (observable : Type 0) (run : Run) (start : Start) (old mid new : DepotState) (outcome : RunOutcome) → AreOne → IsEnd run.cycles → MayBeginAt run start.at
    → (observable → Begins run old.files start) → start.at < run.cycles → GoesOn old mid → RunCause start run mid new outcome
    → (observable → RunLeaves start run old.files new.files outcome) → RunEnds observable run old new (of_run outcome)
end-of-run observable run start old mid new (run_outcome.Done from frames accesses halted) one end may begins ahead on cause leaves =
    (end, (λ none. cause.from ∙ may none), λ t. run-from run start old mid new (run_outcome.Done from frames accesses halted) one (begins t) ahead on cause (leaves t))
end-of-run observable run start old mid new run_outcome.Memory one end may begins ahead on cause leaves = tt
end-of-run observable run start old mid new (run_outcome.WriteFault which) one end may begins ahead on cause leaves =
    (end, (λ t. run-from run start old mid new (run_outcome.WriteFault which) one (begins t) ahead on cause (leaves t)), cause-before start run old mid new (run_outcome.WriteFault which) on cause)

pub files-of-run : (run : Run) (start : Start) (old new : Files) (outcome : RunOutcome) → RunLeaves start run old new outcome → RunFiles run old new (of_run outcome)
files-of-run run start old new (run_outcome.Done from frames accesses halted) leaves = (all_of (pieces_of start run.cycles), leaves)
files-of-run run start old new (run_outcome.WriteFault which) leaves = (leaves.parts, leaves.files)
files-of-run run start old new run_outcome.Memory leaves = leaves

-- a run that found no machine
pub load-ends : (observable : Type 0) (run : Run) (old new : DepotState) (command_outcome : CommandOutcome) → run.cycles ≤ last_cycle → LoadCause observable run old new command_outcome → RunEnds observable run old new command_outcome
load-ends observable run old new (ReadFault State) near cause = (near, cause)
load-ends observable run old new (TooLong State) near cause = (near, cause)
load-ends observable run old new (StateInvalid place) near cause = (near, cause)
load-ends observable run old new (OtherCart kept given) near cause = (near, cause)
load-ends observable run old new Memory near cause = tt
load-ends observable run old new _ near cause = absurd cause.2

-- a run that found its start, and did not begin
pub unbegun-run : (observable : Type 0) (run : Run) (start : Start) (old mid new : DepotState) (outcome : RunOutcome) → AreOne → IsEnd run.cycles → MayBeginAt run start.at
    → (observable → Begins run old.files start) → start.at < run.cycles → GoesOn old mid → (observable → mid.files ≡ old.files) → IsUnwritten run mid new outcome
    → (observable → LeavesParts run mid.files new.files nothing) → RunEnds observable run old new (of_run outcome)
unbegun-run observable run start old mid new outcome one end may begins ahead on same unwritten leaves =
    end-of-run observable run start old mid new outcome one end may begins ahead on (unwritten-cause start run mid new outcome unwritten)
    (λ t. subst (λ (files : Files). RunLeaves start run files new.files outcome) (same t)
    (unwritten-leaves start run mid.files new.files mid new outcome unwritten (leaves t)))

pub unbegun-files : (run : Run) (old new : DepotState) (first files : Files) (outcome : RunOutcome) → IsUnwritten run old new outcome → LeavesParts run first files nothing → RunFiles run first files (of_run outcome)
unbegun-files run old new first files (run_outcome.WriteFault which) unwritten leaves = (leaves.parts, leaves.files)
unbegun-files run old new first files run_outcome.Memory unwritten leaves = leaves
unbegun-files run old new first files (run_outcome.Done from frames accesses halted) unwritten leaves = absurd unwritten
