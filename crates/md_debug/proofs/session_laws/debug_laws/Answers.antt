use Rattle.md_debug.proofs.session_laws.debug_laws.Goals as goal

pub returns : goal.returns
returns c = record { one = c.scripts_have_one_outcome.ensures; kept = c.kept_machines_go_on.ensures }
