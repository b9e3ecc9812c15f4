use Rattle.md_rollback.proofs.Expected.{expected-is}
use Rattle.md_rollback.proofs.input_laws.expected_is_latest.Goals as goal

pub returns : goal.returns
returns c = expected-is
