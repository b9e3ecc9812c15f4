use Rattle.work_sharing.specs.Dues.{AllFree}
use Rattle.work_sharing.proofs.sharing.lay_all.Given as goal

abbrev pub invariant-loop-worker : goal.invariant-loop-worker
invariant-loop-worker g l = AllFree g.H.Holder.is_free l.helds
