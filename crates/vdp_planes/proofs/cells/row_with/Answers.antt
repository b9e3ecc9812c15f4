use Rattle.std.proofs.Common.{◌∙◌, ◌+◌}
use Rattle.vdp_planes.proofs.Spread.{left_digits, right_digits}
use Rattle.vdp_planes.proofs.cells.row_with.Goals as goal

pub returns-clause-left : goal.returns-clause-left
returns-clause-left c =
    λ n low. c.four_words.ensures n low ∙ (λ i. c.base-base.ensures.value i + left_digits c.args.pixels n low i)

pub returns-clause-right : goal.returns-clause-right
returns-clause-right c =
    λ n low. c.four_words-2.ensures n low ∙ (λ i. c.base-base.ensures.value i + right_digits c.args.pixels n low i)
