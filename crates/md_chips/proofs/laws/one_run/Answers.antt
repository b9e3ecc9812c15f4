use Rattle.md_chips.proofs.OneRun.{same-run}
use Rattle.md_chips.proofs.laws.one_run.Goals as goal

pub returns : goal.returns
returns c = same-run
