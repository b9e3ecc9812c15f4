-- What a run from a start can result in: why it ends, and what its outputs hold then.
use Rattle.std.specs.Prelude.{ℕ, IsSome}
use Rattle.md_outer.specs.Outside.{DepotState, Files, Rose}
use Rattle.md_chips.specs.Starts.{Start}
use Rattle.md_args.specs.Files.{run_output}
use Rattle.md_args.specs.Words.{Run}
use Rattle.run_command.specs.Outputs.{Holds, LeavesParts, nothing}
use Rattle.run_command.specs.Resuming.{RunsWell}
use Rattle.run_command.specs.Runs.{pieces_of, pieces_until}
use Rattle.run_command.specs.declared.run_outcome.RunOutcome.{RunOutcome}
use Rattle.run_command.specs.declared.run_outcome.RunOutcome.TheVariants.{Done, Memory, WriteFault}

-- an output that is asked for could not be written: a count of faults rose
abbrev pub IsWriteFault : Run → DepotState → DepotState → RunOutcome → Type 0
IsWriteFault run old new (WriteFault which) = IsSome (run_output run which) × Rose old.write_faults new.write_faults
IsWriteFault run old new outcome = ⊥

-- or out of memory
abbrev pub IsUnwritten : Run → DepotState → DepotState → RunOutcome → Type 0
IsUnwritten run old new Memory = Unit {0}
IsUnwritten run old new outcome = IsWriteFault run old new outcome

-- why a run from a start ends, once it has begun
abbrev pub RunCause : Start → Run → DepotState → DepotState → RunOutcome → Type 0
RunCause start run old new (Done from frames accesses halted) = RunsWell start run.cycles from frames accesses halted
RunCause start run old new outcome = IsUnwritten run old new outcome

-- the outputs hold what the run from a start made below a cycle
abbrev pub HoldsUntil : Start → Run → Files → Files → ℕ → Type 0
HoldsUntil start run old new at = Holds run old new (pieces_until start run.cycles at)

-- what the files hold once the run from a start has ended
abbrev pub RunLeaves : Start → Run → Files → Files → RunOutcome → Type 0
RunLeaves start run old new (Done from frames accesses halted) = Holds run old new (pieces_of start run.cycles)
RunLeaves start run old new (WriteFault which) = LeavesParts run old new (pieces_of start run.cycles)
RunLeaves start run old new Memory = LeavesParts run old new nothing
