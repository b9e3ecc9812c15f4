use Rattle.std.proofs.Common.{◌∙◌, ap, ℕ}
use Rattle.std.specs.Prelude.{replicate}
use Rattle.vdp_chip.proofs.picture.clear.Goals as goal

pub returns : goal.returns
returns c = c.fill.ensures.after (λ y e. e) ∙ ap (λ (n : ℕ). replicate n 0) c.requires
