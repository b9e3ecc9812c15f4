-- A run on its way, at the end of a segment.
use Rattle.std.specs.Prelude.{◌≡◌, ℕ, ◌≤◌, [], length}
use Rattle.md_chips.specs.Console.{IsRunTo}
use Rattle.md_chips.specs.Machines.{MachineValue}
use Rattle.md_chips.specs.Media.{no_media}
use Rattle.md_chips.specs.Starts.{IsStart, Start}
use Rattle.machine_laws.specs.Reached.{IsReached}
use Rattle.run_command.specs.Heard.{HearsRuns}
use Rattle.run_command.specs.Runs.{RunLaws, entries_from, media_from}
use Rattle.run_command.specs.declared.course.Course.{Course}

-- a machine as a start
abbrev pub start_at : MachineValue → Start
start_at machine = record { at = machine.at; console = machine.console }

-- a run as a start, from where it is
abbrev pub start_in : Course → Start
start_in course = start_at course.machine

-- the cycle to which it came
abbrev pub cycle_of : Course → ℕ
cycle_of course = course.machine.at

-- a machine with which a run may begin: it is a start, was drained, and is as a run reaches it
pub record IsFresh (machine : MachineValue) : Type 0 where
  pub from : IsStart (start_at machine)
  pub entries : machine.entries ≡ []
  pub media : machine.media ≡ no_media
  pub reached : IsReached machine.at machine.console

-- a machine came from a start to its cycle with so many accesses, and its records were drained; the
-- machine's laws hold of the runs from that start, and from power-on all runs are heard; the start is as a
-- run reaches it
pub record CameTo (start : Start) (machine : MachineValue) (accesses : ℕ) : Type 0 where
  pub from : IsStart start
  pub laws : RunLaws start
  pub later : start.at ≤ machine.at
  pub run : IsRunTo start.console machine.at machine.console (entries_from start machine.at) (media_from start machine.at)
  pub entries : machine.entries ≡ []
  pub media : machine.media ≡ no_media
  pub counted : accesses ≡ length (entries_from start machine.at)
  pub heard : HearsRuns start
  pub reached : IsReached start.at start.console

-- a run came from this start to where it is
abbrev pub CameFrom : Start → Course → Type 0
CameFrom start course = CameTo start course.machine course.accesses

-- a run came from some start
abbrev pub IsUnderway : Course → Type 0
IsUnderway course = (start : Start) × CameFrom start course

-- a run is at its start
abbrev pub IsAtStart : Course → Type 0
IsAtStart course = CameFrom (start_in course) course
