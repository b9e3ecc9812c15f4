-- What a command line can result in: its status, why it comes, and what the files hold then.
use Rattle.std.specs.Prelude.{◌≡◌, ℕ, zero, suc, ◌<◌, ◌≤◌, List, Option, Some, None}
use Rattle.rom_header.specs.Header.{header_lines}
use Rattle.md_outer.specs.Outside.{DepotState, Files}
use Rattle.md_chips.specs.Starts.{Start}
use Rattle.md_args.specs.Words.{Assemble, Command, Convert, Debug, Info, Rollback, Run, RunCart, RunDemo}
use Rattle.md_args.specs.declared.files.Input.TheVariants.{State}
use Rattle.md_top.specs.Assemblies.{AsmEnds, AsmFiles, CanAssemble}
use Rattle.md_top.specs.Conversions.{CanConvert, ConvertEnds, ConvertFiles}
use Rattle.md_top.specs.Debuggings.{CanDebug, DebugEnds}
use Rattle.md_top.specs.Demos.{DemoEnds}
use Rattle.md_top.specs.Inputs.{CartCause, InputCause, IsAccepted, cart_of}
use Rattle.md_word.specs.Clock.{last_cycle}
use Rattle.run_command.specs.Limits.{IsEnd}
use Rattle.md_top.specs.Loads.{Begins, CanRun, LoadCause, MayBeginAt}
use Rattle.run_command.specs.Outputs.{LeavesOthers, LeavesParts, nothing}
use Rattle.run_command.specs.RunOutcomes.{IsUnwritten, RunCause, RunLeaves}
use Rattle.run_command.specs.declared.run_outcome.RunOutcome.{RunOutcome}
use Rattle.run_command.specs.declared.run_outcome.RunOutcome.TheVariants as run_outcome
use Rattle.md_top.specs.Rollings.{CanRoll, RollEnds}
use Rattle.md_top.specs.declared.command_outcome.CommandOutcome.{CommandOutcome}
use Rattle.md_top.specs.declared.command_outcome.CommandOutcome.TheVariants.{Shown, Done, DemoDone, Converted, Played, RolledBack, Usage, ReadFault, WriteFault, Short, NoMark, RecordingInvalid, StateInvalid, OtherCart, Behind, Memory, ScriptMemory, TooFar, ReplyFault, TooLong, ScriptRefused, SourceRefused, InputRefused, LineRefused}

-- the status that the program ends with
abbrev pub status_of : CommandOutcome → ℕ
status_of (Shown lines) = 0
status_of (Done from frames accesses halted) = 0
status_of (DemoDone summary) = 0
status_of (Converted size) = 0
status_of Played = 0
status_of (RolledBack rolled) = 0
status_of Usage = 2
status_of (ReadFault which) = 3
status_of (WriteFault which) = 4
status_of Short = 5
status_of NoMark = 5
status_of (RecordingInvalid place) = 6
status_of (StateInvalid place) = 7
status_of (OtherCart kept given) = 8
status_of (Behind from) = 9
status_of Memory = 10
status_of ScriptMemory = 10
status_of TooFar = 11
status_of ReplyFault = 13
status_of (TooLong which) = 14
status_of (ScriptRefused line fault) = 15
status_of (SourceRefused line kind) = 16
status_of (InputRefused fault) = 17
status_of (LineRefused line fault) = 18

-- it where the sink fails: that of a command that ended well changes
abbrev pub failed_status : ℕ → ℕ
failed_status zero = 13
failed_status (suc n) = suc n

-- the inputs are there and accepted, and a run's end lies above its start and within the limits
abbrev pub IsReady : Command → Files → Type 0
IsReady (Info rom) files = IsAccepted (files rom)
IsReady (RunCart run) files = IsEnd run.cycles × CanRun run files
IsReady (RunDemo demo) files = IsEnd demo.cycles
IsReady (Convert conversion) files = CanConvert conversion files
IsReady (Assemble words) files = CanAssemble words files
IsReady (Debug words) files = CanDebug words files
IsReady (Rollback words) files = CanRoll words files

-- what a run results in, as the outcome of its command
abbrev pub of_run : RunOutcome → CommandOutcome
of_run (run_outcome.Done from frames accesses halted) = Done from frames accesses halted
of_run (run_outcome.WriteFault which) = WriteFault which
of_run run_outcome.Memory = Memory

-- A RUN THAT BEGAN, from one start: why it ended, what is promised of it where it ended well, and what its outputs
-- hold then
pub record RunsFrom (run : Run) (old new : DepotState) (outcome : RunOutcome) : Type 0 where
  pub start : Start
  pub begins : Begins run old.files start
  -- with no other does it begin: its files spell one recording alone, and keep one machine alone
  pub alone : (other : Start) → Begins run old.files other → other ≡ start
  pub above : start.at < run.cycles
  pub cause : RunCause start run old new outcome
  pub files : RunLeaves start run old.files new.files outcome

-- Why each may come. What a file holds is spoken of where the depot's contents are observable. Each cause says that
-- none of the earlier ones holds.

-- why the lines of a header are put, or not
abbrev pub InfoEnds : Type 0 → List ℕ → DepotState → DepotState → CommandOutcome → Type 0
InfoEnds observable rom old new (Shown lines) = observable → IsAccepted (old.files rom) × (lines ≡ header_lines (cart_of rom old.files))
InfoEnds observable rom old new command_outcome = CartCause observable rom old new command_outcome

-- why a run ends
abbrev pub RunEnds : Type 0 → Run → DepotState → DepotState → CommandOutcome → Type 0
RunEnds observable run old new Memory = Unit {0}
RunEnds observable run old new TooFar = last_cycle < run.cycles
RunEnds observable run old new (Behind from) =
    (run.cycles ≤ last_cycle) × (run.cycles ≤ from) × MayBeginAt run from
    × (observable → (start : Start) × Begins run old.files start × (from ≡ start.at))
RunEnds observable run old new (Done from frames accesses halted) =
    IsEnd run.cycles × MayBeginAt run from
    × (observable → RunsFrom run old new (run_outcome.Done from frames accesses halted))
RunEnds observable run old new (WriteFault which) =
    IsEnd run.cycles × (observable → RunsFrom run old new (run_outcome.WriteFault which)) × IsUnwritten run old new (run_outcome.WriteFault which)
RunEnds observable run old new (ReadFault State) = (run.cycles ≤ last_cycle) × LoadCause observable run old new (ReadFault State)
RunEnds observable run old new (TooLong State) = (run.cycles ≤ last_cycle) × LoadCause observable run old new (TooLong State)
RunEnds observable run old new (StateInvalid place) = (run.cycles ≤ last_cycle) × LoadCause observable run old new (StateInvalid place)
RunEnds observable run old new (OtherCart kept given) = (run.cycles ≤ last_cycle) × LoadCause observable run old new (OtherCart kept given)
RunEnds observable run old new command_outcome = (run.cycles ≤ last_cycle) × InputCause observable run old new command_outcome

-- why a command ends so, or words that are no command
abbrev pub HasCause : Type 0 → Option Command → DepotState → DepotState → CommandOutcome → Type 0
HasCause observable None old new Usage = Unit {0}
HasCause observable None old new Memory = Unit {0}
HasCause observable None old new command_outcome = ⊥
HasCause observable (Some (Info rom)) old new command_outcome = InfoEnds observable rom old new command_outcome
HasCause observable (Some (RunCart run)) old new command_outcome = RunEnds observable run old new command_outcome
HasCause observable (Some (RunDemo demo)) old new command_outcome = (new ≡ old) × DemoEnds demo command_outcome
HasCause observable (Some (Convert conversion)) old new command_outcome = ConvertEnds observable conversion old new command_outcome
HasCause observable (Some (Assemble words)) old new command_outcome = AsmEnds observable words old new command_outcome
HasCause observable (Some (Debug words)) old new command_outcome = DebugEnds observable words old new command_outcome
HasCause observable (Some (Rollback words)) old new command_outcome = RollEnds observable words old new command_outcome

-- what the files hold once a run has ended, or was refused; what the outputs hold of a run that began is said with its
-- cause
abbrev pub RunFiles : Run → Files → Files → CommandOutcome → Type 0
RunFiles run old new (Done from frames accesses halted) = LeavesOthers run old new
RunFiles run old new (WriteFault which) = LeavesOthers run old new
RunFiles run old new Memory = LeavesParts run old new nothing
RunFiles run old new command_outcome = new ≡ old

-- what the files hold then
abbrev pub LeavesFiles : Option Command → Files → Files → CommandOutcome → Type 0
LeavesFiles None old new command_outcome = new ≡ old
LeavesFiles (Some (Info rom)) old new command_outcome = new ≡ old
LeavesFiles (Some (RunCart run)) old new command_outcome = RunFiles run old new command_outcome
LeavesFiles (Some (RunDemo demo)) old new command_outcome = new ≡ old
LeavesFiles (Some (Convert conversion)) old new command_outcome = ConvertFiles conversion old new command_outcome
LeavesFiles (Some (Assemble words)) old new command_outcome = AsmFiles words old new command_outcome
LeavesFiles (Some (Debug words)) old new command_outcome = new ≡ old
LeavesFiles (Some (Rollback words)) old new command_outcome = new ≡ old
