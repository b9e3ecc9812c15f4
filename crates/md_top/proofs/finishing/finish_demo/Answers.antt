use Rattle.std.proofs.Common.{Some, arith}
use Rattle.md_args.specs.Shown.{shown_demo}
use Rattle.md_args.specs.Words.{RunDemo}
use Rattle.md_top.specs.declared.command_outcome.CommandOutcome.TheVariants.{DemoDone}
use Rattle.md_top.proofs.Stages.{not_ten}
use Rattle.md_top.proofs.finishing.finish_demo.Goals as goal

pub sum_up-summary-requires-clause-end : goal.sum_up-summary-requires-clause-end
sum_up-summary-requires-clause-end g c = c.requires.about.end

pub sum_up-summary-requires-clause-before : goal.sum_up-summary-requires-clause-before
sum_up-summary-requires-clause-before g c = c.requires.about.above

pub sum_up-summary-requires-clause-start : goal.sum_up-summary-requires-clause-start
sum_up-summary-requires-clause-start g c = c.requires.about.first

pub returns-clause-reported : goal.returns-clause-reported
returns-clause-reported g c = (c.sum_up-summary.result, c.sum_up-summary.ensures, c.report.ensures)

pub returns-clause-memory : goal.returns-clause-memory
returns-clause-memory g c =
    not_ten g.S.Sink.observable (Some (RunDemo (shown_demo c.args.demo.now))) (DemoDone c.sum_up-summary.result) (g.S.Sink.state c.args.out.now) (g.S.Sink.state c.report.new.out)
    c.report.result c.report.ensures (λ is. omega (arith, is))
