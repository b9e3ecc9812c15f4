use Rattle.std.proofs.Common.{Some}
use Rattle.md_args.specs.Shown.{shown_run}
use Rattle.md_args.specs.Words.{RunCart}
use Rattle.run_command.specs.Courses.{start_in}
use Rattle.md_top.proofs.Stages.{not_ten, run_answered, run_not_ten}
use Rattle.md_top.proofs.finishing.finish_run.Goals as goal

pub write_all-outcome-requires-clause-end : goal.write_all-outcome-requires-clause-end
write_all-outcome-requires-clause-end g c = c.requires.about.1.has.end

pub write_all-outcome-requires-clause-before : goal.write_all-outcome-requires-clause-before
write_all-outcome-requires-clause-before g c = c.requires.about.1.has.above

pub write_all-outcome-requires-clause-start : goal.write_all-outcome-requires-clause-start
write_all-outcome-requires-clause-start g c = c.requires.about.1.has.first

pub write_all-outcome-requires-clause-begun : goal.write_all-outcome-requires-clause-begun
write_all-outcome-requires-clause-begun g c = c.requires.about.1.outputs

pub write_all-outcome-requires-clause-buffers : goal.write_all-outcome-requires-clause-buffers
write_all-outcome-requires-clause-buffers g c = c.requires.about.1.buffers

pub returns-clause-answered : goal.returns-clause-answered
returns-clause-answered g c = λ first about.
    run_answered g.D.Depot.observable g.S.Sink.observable (shown_run c.args.run.now) c.args.begun first (g.D.Depot.state c.args.depot.now) (g.D.Depot.state c.write_all-outcome.new.depot)
    (g.S.Sink.state c.args.out.now) (g.S.Sink.state c.report.new.out) c.report.result c.write_all-outcome.result c.of_run-command_outcome.result c.runs_begin_once.ensures about
    c.write_all-outcome.ensures.cause c.write_all-outcome.ensures.files c.of_run-command_outcome.ensures c.report.ensures

pub returns-clause-memory : goal.returns-clause-memory
returns-clause-memory g c =
    not_ten g.S.Sink.observable (Some (RunCart (shown_run c.args.run.now))) c.of_run-command_outcome.result (g.S.Sink.state c.args.out.now) (g.S.Sink.state c.report.new.out) c.report.result c.report.ensures
    (run_not_ten (start_in c.args.begun.course) (shown_run c.args.run.now) (g.D.Depot.state c.args.depot.now) (g.D.Depot.state c.write_all-outcome.new.depot)
    c.write_all-outcome.result c.of_run-command_outcome.result c.write_all-outcome.ensures.cause c.write_all-outcome.ensures.memory c.of_run-command_outcome.ensures)
