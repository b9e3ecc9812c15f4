use Rattle.md_asm.proofs.Held.{lines_held}
use Rattle.md_asm.proofs.laws.images_hold_their_lines.Goals as goal

pub returns : goal.returns
returns c = lines_held
