use Rattle.vdp_ports.proofs.Kept.{accessed_kept}
use Rattle.vdp_ports.proofs.Same.{accessed_same}
use Rattle.vdp_ports.proofs.state.VdpState.data_read.Goals as goal

pub returns-clause-rules : goal.returns-clause-rules
returns-clause-rules c = λ at h. rw c.access.ensures (accessed_kept at _ h)

pub returns-clause-pins : goal.returns-clause-pins
returns-clause-pins c = rw c.access.ensures (accessed_same _)
