use Rattle.std.proofs.Common.{lit≤}
use Rattle.chip_core.specs.Limits.{total}
use Rattle.core_rows.proofs.five_runs.run_by_workers.Goals as goal

pub run_core-requires-clause-room : goal.run_core-requires-clause-room
unfolding total
run_core-requires-clause-room g c = rw c.in_ok-core.ensures (λ κs within. lit≤ tt)
