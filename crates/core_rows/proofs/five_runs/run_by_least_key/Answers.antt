use Rattle.std.proofs.Common.{lit≤}
use Rattle.chip_core.specs.Limits.{total}
use Rattle.core_rows.proofs.five_runs.run_by_least_key.Goals as goal

pub room-requires-clause-room : goal.room-requires-clause-room
unfolding total
room-requires-clause-room c = rw c.in_ok-core.ensures (lit≤ tt)
