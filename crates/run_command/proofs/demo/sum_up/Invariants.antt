use Rattle.std.proofs.Common.{◌-◌, ◌≤◌}
use Rattle.run_command.specs.Courses.{CameFrom, cycle_of, start_in}
use Rattle.run_command.specs.Demos.{HaveUntil}
use Rattle.run_command.proofs.demo.sum_up.Given as goal

-- the run is at the end of a segment, and the digests have what it made
abbrev pub invariant-segments : goal.invariant-segments
invariant-segments g l =
    (cycle_of l.course ≤ l.end) × CameFrom (start_in l.initial.course) l.course
    × HaveUntil (start_in l.initial.course) (cycle_of l.course) l.hashers

abbrev pub decreases-segments : goal.decreases-segments
decreases-segments g l = l.end - cycle_of l.course
