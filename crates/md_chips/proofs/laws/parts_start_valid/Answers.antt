use Rattle.md_chips.proofs.ValidParts.{parts_begun}
use Rattle.md_chips.proofs.laws.parts_start_valid.Goals as goal

pub returns : goal.returns
returns c = λ recording pal. parts_begun c.args.cart.now recording pal c.bytes.ensures.image
