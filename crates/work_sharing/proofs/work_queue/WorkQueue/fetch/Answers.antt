use Rattle.std.proofs.Common.{refl}
use Rattle.work_sharing.proofs.work_queue.WorkQueue.fetch.Goals as goal

pub take_waiting-requires : goal.take_waiting-requires
take_waiting-requires g c = c.if-take_due.ensures.none refl
