use Rattle.md_rollback.proofs.Expected.{none-expected}
use Rattle.md_rollback.proofs.inputs.Inputs.expected.Goals as goal

pub expected_after-requires-clause-known : goal.expected_after-requires-clause-known
expected_after-requires-clause-known c = none-expected c.args.self.now.local c.args.self.now.remote
