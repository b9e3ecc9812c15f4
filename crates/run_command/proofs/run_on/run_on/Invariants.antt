use Rattle.std.proofs.Common.{◌-◌, ◌≤◌}
use Rattle.md_outer.specs.Outside.{Files, GoesOn}
use Rattle.run_command.specs.Courses.{CameFrom, cycle_of, start_in}
use Rattle.run_command.specs.RunOutcomes.{HoldsUntil}
use Rattle.run_command.specs.Outputs.{AreBegun}
use Rattle.run_command.specs.Saves.{CanSave}
use Rattle.md_args.specs.Shown.{shown_run}
use Rattle.run_command.proofs.run_on.run_on.Given as goal

-- the run is at the end of a segment, and the outputs hold what it made
abbrev pub invariant-segments : goal.invariant-segments
invariant-segments g l =
    (cycle_of l.course ≤ l.run.cycles)
    × CameFrom (start_in l.initial.course) l.course
    × AreBegun (shown_run l.run) (g.D.Depot.state l.depot).begun l.outputs
    × GoesOn (g.D.Depot.state l.initial.depot) (g.D.Depot.state l.depot)
    × (g.D.Depot.observable → (first : Files)
    → HoldsUntil (start_in l.initial.course) (shown_run l.run) first (g.D.Depot.state l.initial.depot).files (cycle_of l.initial.course)
    → HoldsUntil (start_in l.initial.course) (shown_run l.run) first (g.D.Depot.state l.depot).files (cycle_of l.course))
    × CanSave (shown_run l.run) l.buffers

abbrev pub decreases-segments : goal.decreases-segments
decreases-segments g l = l.run.cycles - cycle_of l.course
