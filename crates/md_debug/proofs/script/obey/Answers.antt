use Rattle.md_debug.proofs.Scripts.{not_text, refused_for}
use Rattle.md_debug.proofs.script.obey.Goals as goal

pub returns-in-Ok-clause-refused : goal.returns-in-Ok-clause-refused
returns-in-Ok-clause-refused g c =
    refused_for c.args.session.now c.in-Ok.text.now c.args.line.now c.obey.result c.in-Ok.ensures.cases.0 c.obey.ensures.unknown c.obey.ensures.number c.obey.ensures.not_kept

pub returns-in-Err-clause-refused : goal.returns-in-Err-clause-refused
returns-in-Err-clause-refused g c = λ other. not_text c.args.line.now c.in-Err.ensures.cases.0
