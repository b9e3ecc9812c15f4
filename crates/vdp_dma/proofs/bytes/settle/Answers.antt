use Rattle.vdp_dma.proofs.Settled.{settled_again}
use Rattle.vdp_dma.proofs.Kept.{settled_next, settled_kept}
use Rattle.vdp_dma.proofs.Same.{settled_same}
use Rattle.vdp_dma.proofs.bytes.settle.Goals as goal

pub returns-clause-again : goal.returns-clause-again
returns-clause-again c = λ earlier before h e. settled_again earlier c.args.cycle before _ _ h e c.make_due.ensures

pub returns-clause-next : goal.returns-clause-next
returns-clause-next c = rw c.make_due.ensures (settled_next c.args.cycle _)

pub returns-clause-rules : goal.returns-clause-rules
returns-clause-rules c = λ at l h. rw c.make_due.ensures (settled_kept at c.args.cycle _ l h)

pub returns-clause-pins : goal.returns-clause-pins
returns-clause-pins c = rw c.make_due.ensures (settled_same c.args.cycle _)
