use Rattle.md_debug.proofs.Scripts.{puts_none}
use Rattle.md_top.proofs.report.put_halted.Goals as goal

pub returns-in-None : goal.returns-in-None
returns-in-None g c = rw c.in-None.is (puts_none g.S.Sink.observable (g.S.Sink.state c.args.out.now))
