use Rattle.vdp_chip.proofs.Framed.{frame_scanlines}
use Rattle.vdp_chip.proofs.laws.frame_is_its_scanlines.Goals as goal

pub returns : goal.returns
returns c = frame_scanlines c.args.chip.now c.next-next.ensures.renderer_state
