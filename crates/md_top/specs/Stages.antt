-- A command line up to the first segment of its run: what it came to, or a run that is about to begin.
use Rattle.std.specs.Prelude.{◌≡◌, ℕ, ◌<◌, Option, Some, None}
use Rattle.md_outer.specs.Outside.{DepotState, Files, GoesOn, SinkState}
use Rattle.md_args.specs.Shown.{shown_command, shown_demo, shown_run}
use Rattle.md_args.specs.Words.{Command, Demo, Run, RunCart, RunDemo}
use Rattle.md_top.specs.Answers.{Answers, Causes, Shows}
use Rattle.run_command.specs.Courses.{IsAtStart, cycle_of, start_in}
use Rattle.run_command.specs.Demos.{demo_start}
use Rattle.md_top.specs.CommandOutcomes.{HasCause, LeavesFiles}
use Rattle.run_command.specs.Limits.{IsEnd}
use Rattle.md_top.specs.Loads.{Begins, MayBeginAt}
use Rattle.run_command.specs.Outputs.{AreBegun, Holds, LeavesParts, nothing}
use Rattle.run_command.specs.Saves.{CanSave}
use Rattle.md_top.specs.declared.begun_run.BegunRun.{BegunRun}
use Rattle.run_command.specs.declared.course.Course.{Course}
use Rattle.md_top.specs.declared.prepared.Prepared.{Prepared}
use Rattle.md_top.specs.declared.prepared.Stage.{Stage}
use Rattle.md_top.specs.declared.prepared.Stage.TheVariants as stage

-- a run is at its start, which it found in the files, and its end lies above it
pub record HasStart (observable : Type 0) (run : Run) (old : DepotState) (course : Course) : Type 0 where
  pub end : IsEnd run.cycles
  pub above : cycle_of course < run.cycles
  pub first : IsAtStart course
  pub may : MayBeginAt run (cycle_of course)
  pub begins : observable → Begins run old.files (start_in course)

-- a run is about to begin: it is at its start, its outputs are begun and empty, and there is memory for its state
pub record IsAboutToRun (observable : Type 0) (run : Run) (old now : DepotState) (begun : BegunRun) : Type 0 where
  pub has : HasStart observable run old begun.course
  pub outputs : AreBegun run now.begun begun.outputs
  pub buffers : CanSave run begun.buffers
  pub empty : observable → Holds run old.files now.files nothing
  pub later : GoesOn old now

-- a run of a demonstration cartridge is about to begin
pub record IsAboutToRunDemo (demo : Demo) (course : Course) : Type 0 where
  pub end : IsEnd demo.cycles
  pub above : cycle_of course < demo.cycles
  pub first : IsAtStart course
  pub start : start_in course ≡ demo_start demo

-- So far came a command line. The depot was `old` before it, and is `now`; the sink was `out`, and is `shown`: a
-- session of the debugger alone has put its replies.
abbrev pub Stands : Type 0 → Type 0 → Option Command → DepotState → DepotState → SinkState → SinkState → Stage → Type 0
Stands observable sink command old now out shown stage.Usage = (command ≡ None) × (now ≡ old) × (shown ≡ out)
Stands observable sink command old now out shown stage.Memory = (now ≡ old) × (shown ≡ out)
Stands observable sink command old now out shown (stage.Ended words command_outcome) =
    (Some (shown_command words) ≡ command) × HasCause observable (Some (shown_command words)) old now command_outcome
    × (observable → LeavesFiles (Some (shown_command words)) old.files now.files command_outcome)
    × Shows observable sink (Some (shown_command words)) old.files command_outcome out shown
Stands observable sink command old now out shown (stage.Run words begun) =
    (Some (RunCart (shown_run words)) ≡ command) × (shown ≡ out) × IsAboutToRun observable (shown_run words) old now begun
Stands observable sink command old now out shown (stage.Demo words course) =
    (Some (RunDemo (shown_demo words)) ≡ command) × (shown ≡ out) × (now ≡ old) × IsAboutToRunDemo (shown_demo words) course

-- so it was prepared
abbrev pub IsPrepared : Type 0 → Type 0 → Option Command → DepotState → DepotState → SinkState → SinkState → Prepared → Type 0
IsPrepared observable sink command old now out shown prepared = Stands observable sink command old now out shown prepared.stage

-- it was prepared, and the depot and the sink are as that left them
abbrev pub WasPrepared : Type 0 → Type 0 → DepotState → SinkState → Prepared → Type 0
WasPrepared observable sink now shown prepared =
    (command : Option Command) × (old : DepotState) × (out : SinkState) × IsPrepared observable sink command old now out shown prepared

-- a run is about to begin
abbrev pub Runs : Stage → Type 0
Runs (stage.Run words begun) = Unit {0}
Runs (stage.Demo words course) = Unit {0}
Runs other = ⊥

abbrev pub IsRunning : Prepared → Type 0
IsRunning prepared = Runs prepared.stage

-- how many workers make it; 1 where there is none
abbrev workers_at : Stage → ℕ
workers_at (stage.Run words begun) = words.workers
workers_at (stage.Demo words course) = words.workers
workers_at other = 1

abbrev pub workers_of : Prepared → ℕ
workers_of prepared = workers_at prepared.stage

-- a run has changed no file but that its outputs are begun
abbrev pub LeavesBegun : Option Command → Files → Files → Type 0
LeavesBegun (Some (RunCart run)) old new = LeavesParts run old new nothing
LeavesBegun (Some (RunDemo demo)) old new = new ≡ old
LeavesBegun command old new = Unit {0}

-- the answer as a whole, and one by one
abbrev pub IsAnswered : Type 0 → Type 0 → Option Command → DepotState → DepotState → SinkState → SinkState → ℕ → Type 0
IsAnswered depot_observable sink_observable command old new out out' status =
    Answers depot_observable sink_observable command old new out out' status × Causes depot_observable command old new out out' status
