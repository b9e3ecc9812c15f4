use Rattle.work_sharing.specs.Dues.{AllFree}
use Rattle.work_sharing.proofs.work_queue.laid.Laid.take_all.Given as goal

abbrev pub invariant-loop-chip : goal.invariant-loop-chip
invariant-loop-chip g l = AllFree g.H.Holder.is_free l.helds
