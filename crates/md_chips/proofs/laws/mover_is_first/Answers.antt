use Rattle.md_chips.proofs.LeastKeys.{least-cycle}
use Rattle.md_chips.proofs.laws.mover_is_first.Goals as goal

pub returns : goal.returns
returns c = least-cycle
