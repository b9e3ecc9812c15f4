use Rattle.std.proofs.Common.{lit≤}
use Rattle.chip_core.specs.Limits.{total}
use Rattle.scheduler_tests.proofs.locks.a_run_of_all_chips_ends_on_one_thread.Goals as goal

pub moves_to-requires-clause-room : goal.moves_to-requires-clause-room
unfolding total
moves_to-requires-clause-room g c = rw c.in_ok-core.ensures (lit≤ tt)
