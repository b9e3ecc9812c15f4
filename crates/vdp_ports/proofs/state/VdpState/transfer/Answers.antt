use Rattle.vdp_ports.proofs.Kept.{transferred_kept}
use Rattle.vdp_ports.proofs.Same.{transferred_same}
use Rattle.vdp_ports.specs.Data.{transferred}
use Rattle.vdp_ports.proofs.state.VdpState.transfer.Goals as goal

pub returns-clause-rules : goal.returns-clause-rules
unfolding transferred
returns-clause-rules c = λ at h. rw (c.access.ensures, c.put.ensures) (transferred_kept at c.args.word _ h)

pub returns-clause-pins : goal.returns-clause-pins
unfolding transferred
returns-clause-pins c = rw (c.access.ensures, c.put.ensures) (transferred_same c.args.word _)
