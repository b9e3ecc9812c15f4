use Rattle.vdp_ports.specs.Control.{level}
use Rattle.vdp_ports.proofs.Same.{stay}
use Rattle.std.proofs.Common.{refl}
use Rattle.vdp_ports.proofs.state.VdpState.control_read.Goals as goal

pub returns-clause-pins : goal.returns-clause-pins
unfolding level
returns-clause-pins c = rw (← c.self.view_is) (stay _ _ refl refl refl)
