use Rattle.vdp_dma.proofs.Ranges.{settled_spelled}
use Rattle.vdp_dma.proofs.bytes.is_read_again.Goals as goal

pub returns : goal.returns
returns c = λ earlier at following far h. settled_spelled earlier at c.args.state.now following far c.known.ensures h
