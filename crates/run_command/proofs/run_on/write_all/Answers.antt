use Rattle.std.proofs.Common.{◌≡◌, ap, subst, sym}
use Rattle.md_chips.specs.Starts.{Start}
use Rattle.run_command.specs.Courses.{start_at, start_in}
use Rattle.run_command.specs.RunOutcomes.{HoldsUntil, RunCause, RunLeaves}
use Rattle.md_args.specs.Shown.{shown_run}
use Rattle.run_command.proofs.Ends.{begun-on, cause-before, fault-leaves, fault-not_memory}
use Rattle.run_command.proofs.run_on.write_all.Goals as goal

pub returns-in-Err-clause-memory : goal.returns-in-Err-clause-memory
returns-in-Err-clause-memory g c =
    fault-not_memory (shown_run c.args.run.now) (g.D.Depot.state c.args.depot.now) (g.D.Depot.state c.append_head.new.depot) c.in-Err.outcome c.in-Err.ensures.err

pub returns-in-Err-clause-files : goal.returns-in-Err-clause-files
returns-in-Err-clause-files g c = λ t first holds.
    fault-leaves (start_in c.args.course) (shown_run c.args.run.now) first (g.D.Depot.state c.append_head.new.depot).files
    (g.D.Depot.state c.args.depot.now) (g.D.Depot.state c.append_head.new.depot) c.in-Err.outcome c.in-Err.ensures.err
    (c.in-Err.ensures.err_files t first holds)

pub returns-in-Ok-clause-cause : goal.returns-in-Ok-clause-cause
returns-in-Ok-clause-cause g c =
    let same : start_in c.append_head.new.course ≡ start_in c.args.course = ap start_at c.append_head.ensures.machine in
    subst (λ (start : Start). RunCause start (shown_run c.args.run.now) (g.D.Depot.state c.args.depot.now) (g.D.Depot.state c.run_on.new.depot) c.run_on.result) same
    (cause-before (start_in c.append_head.new.course) (shown_run c.args.run.now) (g.D.Depot.state c.args.depot.now) (g.D.Depot.state c.append_head.new.depot)
    (g.D.Depot.state c.run_on.new.depot) c.run_on.result c.append_head.ensures.goes_on c.run_on.ensures.cause)

pub returns-in-Ok-clause-files : goal.returns-in-Ok-clause-files
returns-in-Ok-clause-files g c = λ t first holds.
    let same : start_in c.append_head.new.course ≡ start_in c.args.course = ap start_at c.append_head.ensures.machine in
    subst (λ (start : Start). RunLeaves start (shown_run c.args.run.now) first (g.D.Depot.state c.run_on.new.depot).files c.run_on.result) same
    (c.run_on.ensures.files t first
    (subst (λ (start : Start). HoldsUntil start (shown_run c.args.run.now) first (g.D.Depot.state c.append_head.new.depot).files start.at) (sym same)
    (c.in-Ok.ensures.files t first holds)))

pub run_on-requires-clause-begun : goal.run_on-requires-clause-begun
run_on-requires-clause-begun g c =
    begun-on (shown_run c.args.run.now) (g.D.Depot.state c.args.depot.now) (g.D.Depot.state c.append_head.new.depot) c.args.outputs.now c.append_head.ensures.goes_on c.requires.begun
