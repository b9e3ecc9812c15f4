use Rattle.std.proofs.Common.{refl}
use Rattle.work_sharing.proofs.work_queue.laid.Laid.take_first.Goals as goal

pub returns-then-take_due : goal.returns-then-take_due
returns-then-take_due g c = c.if-take_due.ensures.found refl

pub loop-chip-preserved : goal.loop-chip-preserved
loop-chip-preserved g c = c.if-take_due.ensures.none refl
