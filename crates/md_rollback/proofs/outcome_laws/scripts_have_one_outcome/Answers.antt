use Rattle.md_rollback.proofs.Single.{one_outcome}
use Rattle.md_rollback.proofs.outcome_laws.scripts_have_one_outcome.Goals as goal

pub returns : goal.returns
returns c = one_outcome c.one_run.ensures
