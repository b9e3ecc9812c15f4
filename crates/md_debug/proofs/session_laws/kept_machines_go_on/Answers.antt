use Rattle.md_debug.proofs.session_laws.kept_machines_go_on.Goals as goal

pub returns : goal.returns
returns c = λ images m z end entries output has later small run. c.settled_machines_go_on.ensures m.console z m.at end entries output has.reached.parts has.reached.start.quiet later small run
