-- What comes of a command line from where it was prepared to.
use Rattle.std.proofs.Common.{◌≡◌, ◌≢◌, ◌⊎◌, inl, inr, ℕ, Option, Some, None, refl, sym, ap, subst, ◌∙◌, arith}
use Rattle.std.specs.Prelude.{codes}
use Rattle.md_outer.specs.Outside.{DepotState, Files, SinkState}
use Rattle.md_args.specs.Words.{Command, Demo, Run, RunCart, RunDemo, Info, Convert, Assemble, Debug, Rollback}
use Rattle.md_top.specs.Answers.{PutsAll, PutsPart, Reports, Shows}
use Rattle.run_command.specs.Courses.{start_in}
use Rattle.run_command.specs.Demos.{IsSummary}
use Rattle.md_top.specs.CommandOutcomes.{HasCause, LeavesFiles, of_run, status_of}
use Rattle.run_command.specs.RunOutcomes.{RunCause, RunLeaves}
use Rattle.run_command.specs.Outputs.{Holds, nothing}
use Rattle.md_top.specs.Stages.{IsAboutToRun, IsAboutToRunDemo, IsAnswered, LeavesBegun}
use Rattle.md_top.specs.declared.begun_run.BegunRun.{BegunRun}
use Rattle.run_command.specs.declared.course.Course.{Course}
use Rattle.run_command.specs.declared.run_outcome.RunOutcome.{RunOutcome}
use Rattle.run_command.specs.declared.run_outcome.RunOutcome.TheVariants as run_outcome
use Rattle.md_top.specs.declared.command_outcome.CommandOutcome.{CommandOutcome}
use Rattle.md_top.specs.declared.command_outcome.CommandOutcome.TheVariants.{DemoDone, Usage}
use Rattle.run_command.specs.declared.summary.Summary.{Summary}
use Rattle.md_chips.specs.Starts.{Start}
use Rattle.run_command.proofs.Ends.{untouched}
use Rattle.md_top.proofs.Ends.{AreOne, end-of-run, files-of-run}
use Rattle.md_top.proofs.Rows.{causes_of, memory_answers, memory_causes, none_causes}
use Rattle.md_top.proofs.Puts.{line_of}
use Rattle.md_top.proofs.Statuses.{IsOf, reported_then}

-- BEFORE THE FIRST SEGMENT

-- where no file changes no output is begun
pub unbegun : (command : Option Command) (old new : Files) → new ≡ old → LeavesBegun command old new
unbegun None old new same = tt
unbegun (Some (Info rom)) old new same = tt
unbegun (Some (RunCart run)) old new same = untouched run old new same
unbegun (Some (RunDemo demo)) old new same = same
unbegun (Some (Convert conversion)) old new same = tt
unbegun (Some (Assemble words)) old new same = tt
unbegun (Some (Debug words)) old new same = tt
unbegun (Some (Rollback words)) old new same = tt

-- BEHIND THE LAST

-- words that ask for nothing
pub usage_answered : (observable sink : Type 0) (command : Option Command) (old now : DepotState) (out out' : SinkState) (status : ℕ) → command ≡ None → now ≡ old → status ≡ 2
    → PutsAll sink (codes "refused: usage\n") out out' ⊎ PutsPart sink (codes "refused: usage\n") out out' → IsAnswered observable sink command old now out out' status
usage_answered observable sink command old now out out' status none same two put =
    subst (λ (asked : Option Command). IsAnswered observable sink asked old now out out' status) (sym none)
    (subst (λ (new : DepotState). IsAnswered observable sink None old new out out' status) (sym same)
    (record { command_outcome = Usage; cause = tt; files = λ t. refl; between = out; shown = refl; reports = line_of sink (codes "refused: usage\n") 2 out out' status two refl put }, none_causes observable old out out' status (inl two)))

-- out of memory for the words
pub memory_answered : (observable sink : Type 0) (command : Option Command) (old now : DepotState) (out out' : SinkState) (status : ℕ) → now ≡ old → status ≡ 10
    → PutsAll sink (codes "refused: memory\n") out out' ⊎ PutsPart sink (codes "refused: memory\n") out out' → IsAnswered observable sink command old now out out' status
memory_answered observable sink command old now out out' status same ten put =
    subst (λ (new : DepotState). IsAnswered observable sink command old new out out' status) (sym same)
    (memory_answers observable sink command old out out' status ten put, memory_causes observable sink command old out out' status ten put)

-- a command that resulted in an outcome
pub ended_answered : (observable sink : Type 0) (command : Option Command) (asked : Command) (old new : DepotState) (out between out' : SinkState) (status : ℕ) (command_outcome : CommandOutcome)
    → Some asked ≡ command → HasCause observable (Some asked) old new command_outcome → (observable → LeavesFiles (Some asked) old.files new.files command_outcome)
    → Shows observable sink (Some asked) old.files command_outcome out between → Reports sink (Some asked) command_outcome between out' status → IsAnswered observable sink command old new out out' status
ended_answered observable sink command asked old new out between out' status command_outcome same cause leaves shown reports =
    subst (λ (words : Option Command). IsAnswered observable sink words old new out out' status) same (
      record { command_outcome = command_outcome; cause = cause; files = leaves; between = between; shown = shown; reports = reports },
      causes_of observable sink asked old new out between out' status command_outcome cause leaves shown reports,
    )

-- a run
pub run_answered : (observable sink : Type 0) (run : Run) (begun : BegunRun) (first now new : DepotState) (out out' : SinkState) (status : ℕ) (outcome : RunOutcome) (command_outcome : CommandOutcome) → AreOne
    → IsAboutToRun observable run first now begun → RunCause (start_in begun.course) run now new outcome
    → (observable → (files : Files) → Holds run files now.files nothing → RunLeaves (start_in begun.course) run files new.files outcome) → command_outcome ≡ of_run outcome
    → Reports sink (Some (RunCart run)) command_outcome out out' status → IsAnswered observable sink (Some (RunCart run)) first new out out' status
run_answered observable sink run begun first now new out out' status outcome command_outcome one about cause leaves same reports =
    let start : Start = start_in begun.course in
    let left : observable → RunLeaves start run first.files new.files outcome = λ t. leaves t first.files (about.empty t) in
    ended_answered observable sink (Some (RunCart run)) (RunCart run) first new out out out' status (of_run outcome) refl
    (end-of-run observable run start first now new outcome one about.has.end about.has.may about.has.begins about.has.above about.later cause left)
    (λ t. files-of-run run start first.files new.files outcome (left t)) refl
    (subst (λ (result : CommandOutcome). Reports sink (Some (RunCart run)) result out out' status) same reports)

-- a run of a demonstration cartridge
pub demo_answered : (observable sink : Type 0) (demo : Demo) (course : Course) (now : DepotState) (out out' : SinkState) (status : ℕ) → IsAboutToRunDemo demo course
    → (summary : Summary) × IsSummary (start_in course) demo.cycles summary × Reports sink (Some (RunDemo demo)) (DemoDone summary) out out' status
    → IsAnswered observable sink (Some (RunDemo demo)) now now out out' status
demo_answered observable sink demo course now out out' status about (summary, is, reports) =
    ended_answered observable sink (Some (RunDemo demo)) (RunDemo demo) now now out out out' status (DemoDone summary) refl
    (refl, (about.end, subst (λ (start : Start). IsSummary start demo.cycles summary) about.start is)) (λ t. refl) refl reports

-- the same with the words that asked for it, and the depot as it was before
pub asked_answered : (observable sink : Type 0) (command : Option Command) (asked : Command) (old new : DepotState) (out out' : SinkState) (status : ℕ)
    → Some asked ≡ command → IsAnswered observable sink (Some asked) old new out out' status → IsAnswered observable sink command old new out out' status
asked_answered observable sink command asked old new out out' status same is = subst (λ (words : Option Command). IsAnswered observable sink words old new out out' status) same is

pub kept_answered : (observable sink : Type 0) (command : Option Command) (old now : DepotState) (out out' : SinkState) (status : ℕ)
    → now ≡ old → IsAnswered observable sink command now now out out' status → IsAnswered observable sink command old now out out' status
kept_answered observable sink command old now out out' status same is = subst (λ (before : DepotState). IsAnswered observable sink command before now out out' status) same is

-- and where nothing was put before
pub shown_answered : (observable sink : Type 0) (command : Option Command) (old new : DepotState) (before out out' : SinkState) (status : ℕ)
    → out ≡ before → IsAnswered observable sink command old new out out' status → IsAnswered observable sink command old new before out' status
shown_answered observable sink command old new before out out' status same is = subst (λ (first : SinkState). IsAnswered observable sink command old new first out' status) same is

-- NOT OUT OF MEMORY

pub run_not_ten : (start : Start) (run : Run) (old new : DepotState) (outcome : RunOutcome) (command_outcome : CommandOutcome) → RunCause start run old new outcome → outcome ≢ run_outcome.Memory
    → command_outcome ≡ of_run outcome → status_of command_outcome ≡ 10 → ⊥
run_not_ten start run old new outcome command_outcome cause other same is = by outcome other (sym (ap status_of same) ∙ is)
  where
    by : (one : RunOutcome) → one ≢ run_outcome.Memory → status_of (of_run one) ≡ 10 → ⊥
    by (run_outcome.Done from frames accesses halted) memory ten = omega (arith, ten)
    by (run_outcome.WriteFault which) memory ten = omega (arith, ten)
    by run_outcome.Memory memory ten = memory refl

pub not_ten : (sink : Type 0) (command : Option Command) (command_outcome : CommandOutcome) (out out' : SinkState) (status : ℕ) → Reports sink command command_outcome out out' status
    → (status_of command_outcome ≡ 10 → ⊥) → status ≡ 10 → ⊥
not_ten sink command command_outcome out out' status reports other ten = by (reported_then sink command command_outcome out out' status reports)
  where
    by : IsOf status command_outcome out out' → ⊥
    by (inl same) = other (sym same ∙ ten)
    by (inr part) = omega (arith, part.1, ten)
