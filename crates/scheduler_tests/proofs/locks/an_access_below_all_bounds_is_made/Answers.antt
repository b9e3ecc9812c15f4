use Rattle.std.proofs.Common.{lit≤}
use Rattle.chip_core.specs.Limits.{total}
use Rattle.scheduler_tests.proofs.locks.an_access_below_all_bounds_is_made.Goals as goal

pub first_turn-requires-clause-room : goal.first_turn-requires-clause-room
unfolding total
first_turn-requires-clause-room g c = rw c.in_ok-core.ensures (lit≤ tt)
