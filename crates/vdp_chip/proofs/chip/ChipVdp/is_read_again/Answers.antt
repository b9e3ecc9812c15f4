use Rattle.vdp_chip.proofs.SavedLaws.{spelled_back}
use Rattle.vdp_chip.proofs.chip.ChipVdp.is_read_again.Goals as goal

pub returns : goal.returns
returns c = λ at is. spelled_back at c.args.self.now c.known.ensures.renderer_state c.known.ensures.next is
