use Rattle.state_laws.proofs.Whole.{one_verdict}
use Rattle.state_laws.proofs.verdicts.verdicts_are_one.Goals as goal

pub returns : goal.returns
returns c = one_verdict
