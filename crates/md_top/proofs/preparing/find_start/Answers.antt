use Rattle.std.proofs.Common.{◌∙◌, ap, sym, subst, arith}
use Rattle.md_outer.specs.Outside.{Files}
use Rattle.md_chips.specs.Starts.{Start}
use Rattle.run_command.specs.Courses.{start_at}
use Rattle.md_top.specs.Loads.{Begins, BeginsWith, LoadCause}
use Rattle.md_args.specs.Shown.{shown_run}
use Rattle.md_top.proofs.Ends.{load-ends}
use Rattle.md_top.proofs.Kept.{state-cause-before}
use Rattle.md_top.proofs.preparing.find_start.Goals as goal

pub returns-in-Err-first_machine-clause-cause : goal.returns-in-Err-first_machine-clause-cause
returns-in-Err-first_machine-clause-cause g c =
    let cause : LoadCause g.D.Depot.observable (shown_run c.args.run.now) (g.D.Depot.state c.args.depot.now) (g.D.Depot.state c.first_machine.new.depot) c.in-Err-first_machine.command_outcome = (
      c.in-Ok.inputs,
      c.in-Ok.ensures.inputs,
      state-cause-before g.D.Depot.observable (shown_run c.args.run.now).load c.in-Ok.inputs (g.D.Depot.state c.args.depot.now) (g.D.Depot.state c.read_inputs.new.depot)
          (g.D.Depot.state c.first_machine.new.depot) c.in-Err-first_machine.command_outcome c.in-Ok.ensures.files c.in-Ok.ensures.goes_on c.in-Err-first_machine.ensures.err,
    ) in
    load-ends g.D.Depot.observable (shown_run c.args.run.now) (g.D.Depot.state c.args.depot.now) (g.D.Depot.state c.first_machine.new.depot) c.in-Err-first_machine.command_outcome
    (omega (arith, c.if-run-gt-LAST_CYCLE.false)) cause

pub returns-then-run-from-clause-cause : goal.returns-then-run-from-clause-cause
returns-then-run-from-clause-cause g c = (
  omega (arith, c.if-run-gt-LAST_CYCLE.false),
  omega (arith, c.if-run-from.true),
  λ none. c.at-from.ensures ∙ c.in-Ok-first_machine.ensures.at none,
  λ t. (
    start_at c.in-Ok-first_machine.machine,
    record {
      inputs = c.in-Ok.inputs;
      are = c.in-Ok.ensures.inputs t;
      with = subst (λ (files : Files). BeginsWith (shown_run c.args.run.now).load files c.in-Ok.inputs (start_at c.in-Ok-first_machine.machine)) (c.in-Ok.ensures.files t) (c.in-Ok-first_machine.ensures.begins t);
    },
    c.at-from.ensures,
  ),
)

pub returns-in-Ok-begin-clause-start : goal.returns-in-Ok-begin-clause-start
returns-in-Ok-begin-clause-start g c = record {
  end = (omega (arith, c.if-run-from.false), omega (arith, c.if-run-gt-LAST_CYCLE.false));
  above = omega (arith, c.if-run-from.false, c.at-from.ensures, ap (λ (s : Start). s.at) c.in-Ok-begin.ensures.start);
  first = c.in-Ok-begin.ensures.underway;
  may = λ none. ap (λ (s : Start). s.at) c.in-Ok-begin.ensures.start ∙ c.in-Ok-first_machine.ensures.at none;
  begins = λ t. subst (Begins (shown_run c.args.run.now) (g.D.Depot.state c.args.depot.now).files) (sym c.in-Ok-begin.ensures.start)
      (record {
        inputs = c.in-Ok.inputs;
        are = c.in-Ok.ensures.inputs t;
        with = subst (λ (files : Files). BeginsWith (shown_run c.args.run.now).load files c.in-Ok.inputs (start_at c.in-Ok-first_machine.machine)) (c.in-Ok.ensures.files t) (c.in-Ok-first_machine.ensures.begins t);
      });
}
