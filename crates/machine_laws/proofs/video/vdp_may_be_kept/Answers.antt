use Rattle.std.proofs.Common.{arith}
use Rattle.vdp_dma.proofs.Kept.{settled_is}
use Rattle.machine_laws.proofs.video.vdp_may_be_kept.Goals as goal

pub returns : goal.returns
returns c = λ at m has. settled_is at at m.shared.vdp (omega arith) has.rules
