use Rattle.std.proofs.Common.{subst, sym}
use Rattle.md_outer.specs.Outside.{Files}
use Rattle.md_args.specs.Shown.{shown_run}
use Rattle.run_command.specs.Courses.{start_in}
use Rattle.run_command.specs.Outputs.{Holds, LeavesParts, nothing}
use Rattle.md_top.specs.CommandOutcomes.{RunEnds, RunFiles}
use Rattle.md_top.specs.declared.command_outcome.CommandOutcome.{CommandOutcome}
use Rattle.run_command.proofs.Ends.{empty-parts, goes-far, untouched}
use Rattle.md_top.proofs.Ends.{unbegun-files, unbegun-run, unchanged}
use Rattle.md_top.proofs.preparing.begin_run.Goals as goal

pub returns-in-Err-clause-left : goal.returns-in-Err-clause-left
returns-in-Err-clause-left g c = λ t.
    unchanged (shown_run c.args.run.now) (g.D.Depot.state c.args.depot.now).files (g.D.Depot.state c.find_start.new.depot).files c.in-Err.command_outcome (c.in-Err.ensures.files t)

pub returns-in-Err-clause-files : goal.returns-in-Err-clause-files
returns-in-Err-clause-files g c = λ t.
    untouched (shown_run c.args.run.now) (g.D.Depot.state c.args.depot.now).files (g.D.Depot.state c.find_start.new.depot).files (c.in-Err.ensures.files t)

pub returns-in-Err-make_buffers-clause-left : goal.returns-in-Err-make_buffers-clause-left
returns-in-Err-make_buffers-clause-left g c = λ t.
    untouched (shown_run c.args.run.now) (g.D.Depot.state c.args.depot.now).files (g.D.Depot.state c.find_start.new.depot).files (c.in-Ok.ensures.files t)

pub returns-in-Err-make_buffers-clause-files : goal.returns-in-Err-make_buffers-clause-files
returns-in-Err-make_buffers-clause-files g c = λ t.
    untouched (shown_run c.args.run.now) (g.D.Depot.state c.args.depot.now).files (g.D.Depot.state c.find_start.new.depot).files (c.in-Ok.ensures.files t)

pub returns-in-Ok-begin_all-clause-about : goal.returns-in-Ok-begin_all-clause-about
returns-in-Ok-begin_all-clause-about g c = record {
  has = c.in-Ok.ensures.start;
  outputs = c.in-Ok-begin_all.ensures.begun;
  buffers = c.in-Ok-make_buffers.ensures;
  empty = λ t. subst (λ (old : Files). Holds (shown_run c.args.run.now) old (g.D.Depot.state c.begin_all.new.depot).files nothing) (c.in-Ok.ensures.files t) (c.in-Ok-begin_all.ensures.files t);
  later = goes-far (g.D.Depot.state c.args.depot.now) (g.D.Depot.state c.find_start.new.depot) (g.D.Depot.state c.begin_all.new.depot) c.in-Ok.ensures.goes_on c.begin_all.ensures.goes_on;
}

pub returns-in-Ok-begin_all-clause-files : goal.returns-in-Ok-begin_all-clause-files
returns-in-Ok-begin_all-clause-files g c = λ t.
    empty-parts (shown_run c.args.run.now) (g.D.Depot.state c.args.depot.now).files (g.D.Depot.state c.begin_all.new.depot).files
    (subst (λ (old : Files). Holds (shown_run c.args.run.now) old (g.D.Depot.state c.begin_all.new.depot).files nothing) (c.in-Ok.ensures.files t) (c.in-Ok-begin_all.ensures.files t))

pub returns-in-Err-begin_all-clause-cause : goal.returns-in-Err-begin_all-clause-cause
returns-in-Err-begin_all-clause-cause g c =
    let has = c.in-Ok.ensures.start in
    subst (λ (command_outcome : CommandOutcome). RunEnds g.D.Depot.observable (shown_run c.args.run.now) (g.D.Depot.state c.args.depot.now) (g.D.Depot.state c.begin_all.new.depot) command_outcome) (sym c.of_run.ensures)
    (unbegun-run g.D.Depot.observable (shown_run c.args.run.now) (start_in c.in-Ok.course) (g.D.Depot.state c.args.depot.now) (g.D.Depot.state c.find_start.new.depot)
    (g.D.Depot.state c.begin_all.new.depot) c.in-Err-begin_all.outcome c.runs_begin_once.ensures has.end has.may has.begins has.above c.in-Ok.ensures.goes_on c.in-Ok.ensures.files
    c.in-Err-begin_all.ensures.err c.in-Err-begin_all.ensures.err_files)

pub returns-in-Err-begin_all-clause-left : goal.returns-in-Err-begin_all-clause-left
returns-in-Err-begin_all-clause-left g c = λ t.
    subst (λ (command_outcome : CommandOutcome). RunFiles (shown_run c.args.run.now) (g.D.Depot.state c.args.depot.now).files (g.D.Depot.state c.begin_all.new.depot).files command_outcome) (sym c.of_run.ensures)
    (unbegun-files (shown_run c.args.run.now) (g.D.Depot.state c.find_start.new.depot) (g.D.Depot.state c.begin_all.new.depot) (g.D.Depot.state c.args.depot.now).files
    (g.D.Depot.state c.begin_all.new.depot).files c.in-Err-begin_all.outcome c.in-Err-begin_all.ensures.err
    (subst (λ (old : Files). LeavesParts (shown_run c.args.run.now) old (g.D.Depot.state c.begin_all.new.depot).files nothing) (c.in-Ok.ensures.files t) (c.in-Err-begin_all.ensures.err_files t)))

pub returns-in-Err-begin_all-clause-files : goal.returns-in-Err-begin_all-clause-files
returns-in-Err-begin_all-clause-files g c = λ t.
    subst (λ (old : Files). LeavesParts (shown_run c.args.run.now) old (g.D.Depot.state c.begin_all.new.depot).files nothing) (c.in-Ok.ensures.files t) (c.in-Err-begin_all.ensures.err_files t)
