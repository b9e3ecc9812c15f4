use Rattle.md_chips.proofs.Pads.{pads-recorded}
use Rattle.md_chips.proofs.laws.pads_are_recorded.Goals as goal

pub returns : goal.returns
returns c = pads-recorded
