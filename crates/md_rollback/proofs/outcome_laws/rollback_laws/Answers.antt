use Rattle.md_rollback.proofs.outcome_laws.rollback_laws.Goals as goal

pub returns : goal.returns
returns c = record { one = c.scripts_have_one_outcome.ensures; latest = c.expected_is_latest.ensures; confirmed = c.confirmed_machines_stay.ensures }
