use Rattle.md_chips.proofs.FrameCounts.{counts-frames}
use Rattle.md_chips.proofs.laws.frames_counted.Goals as goal

pub returns : goal.returns
returns c = counts-frames
