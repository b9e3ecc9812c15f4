use Rattle.state_laws.proofs.Whole.{some_verdict}
use Rattle.state_laws.proofs.verdicts.bytes_have_a_verdict.Goals as goal

pub returns : goal.returns
returns c = some_verdict
