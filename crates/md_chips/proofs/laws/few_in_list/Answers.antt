use Rattle.std.proofs.Common.{arith}
use Rattle.chip_core.specs.Limits.{total}
use Rattle.md_chips.proofs.laws.few_in_list.Goals as goal

pub returns : goal.returns
unfolding total
returns c = λ span. omega arith
