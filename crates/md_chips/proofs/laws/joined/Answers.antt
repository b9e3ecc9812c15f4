use Rattle.md_chips.proofs.Joined.{run-joined}
use Rattle.md_chips.proofs.laws.joined.Goals as goal

pub returns : goal.returns
returns c = run-joined
