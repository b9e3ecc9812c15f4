use Rattle.std.proofs.Common.{lit≤}
use Rattle.chip_core.specs.Limits.{total}
use Rattle.scheduler_tests.proofs.workers.one_worker_alone_runs_no_job.Goals as goal

pub run_core-core-requires-clause-room : goal.run_core-core-requires-clause-room
unfolding total
run_core-core-requires-clause-room g c = rw c.in_ok-core.ensures (λ κs. lit≤ tt)
