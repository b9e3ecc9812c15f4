use Rattle.md_debug.proofs.PlayedScripts.{one_script}
use Rattle.md_debug.proofs.session_laws.scripts_have_one_outcome.Goals as goal

pub returns : goal.returns
returns c = one_script
