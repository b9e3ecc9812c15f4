use Rattle.std.proofs.Common.{rules, ◌≡◌, ℕ, Bool, Option, ap, ap₂, sym, subst, ◌∙◌, arith}
use Rattle.md_chips.specs.Starts.{Start}
use Rattle.run_command.specs.Courses.{cycle_of, start_in}
use Rattle.run_command.specs.Counts.{frames_between}
use Rattle.run_command.specs.RunOutcomes.{HoldsUntil}
use Rattle.run_command.specs.Resuming.{RunsWell}
use Rattle.run_command.specs.Runs.{state_to}
use Rattle.md_args.specs.Shown.{shown_run}
use Rattle.save_state.specs.States.{state_bytes}
use Rattle.run_command.proofs.Ends.{begun-on, fault-leaves, fault-not_memory, goes-far, state-held, state-parts}
use Rattle.run_command.proofs.Rests.{ends-well}
use Rattle.run_command.proofs.Segments.{state-found}
use Rattle.run_command.proofs.run_on.run_on.Goals as goal

pub run_segment-requires-clause-underway : goal.run_segment-requires-clause-underway
run_segment-requires-clause-underway g c = (start_in c.args.course, c.segments.invariant.1)

pub segments-preserved : goal.segments-preserved
segments-preserved g c = (
  search rules,
  c.in_default.ensures.underway (start_in c.args.course) c.segments.invariant.1,
  begun-on (shown_run c.args.run.now) (g.D.Depot.state c.segments.depot) (g.D.Depot.state c.run_segment.new.depot) c.args.outputs.now c.run_segment.ensures.goes_on c.segments.invariant.2,
  goes-far (g.D.Depot.state c.args.depot.now) (g.D.Depot.state c.segments.depot) (g.D.Depot.state c.run_segment.new.depot) c.segments.invariant.3 c.run_segment.ensures.goes_on,
  λ t first holds. c.in_default.ensures.files t (start_in c.args.course) first c.segments.invariant.1 (c.segments.invariant.4 t first holds),
  c.segments.invariant.5,
)

pub returns-in-Err-clause-files : goal.returns-in-Err-clause-files
returns-in-Err-clause-files g c = λ t first holds.
    c.in-Err.ensures.err_files t (start_in c.args.course) first c.segments.invariant.1 (c.segments.invariant.4 t first holds)

pub returns-in-Ok-clause-cause : goal.returns-in-Ok-clause-cause
returns-in-Ok-clause-cause g c =
    let course = c.segments.course in
    let start : Start = start_in c.args.course in
    let at : cycle_of course ≡ c.args.run.now.cycles = omega (arith, c.segments.invariant.0, c.segments-test.false, c.at.ensures) in
    let halted : c.halted.result ≡ course.machine.console.main.halted = rw c.main_chip.ensures at c.halted.ensures in
    let finished : c.frames_between.result ≡ frames_between start.console.pal start.at c.args.run.now.cycles =
    c.frames_between.ensures ∙ ap₂ (λ (pal : Bool) (from : ℕ). frames_between pal from c.args.run.now.cycles) c.pal-pal.ensures.value c.at-from.ensures in
    subst (λ (from : ℕ). RunsWell start c.args.run.now.cycles from c.frames_between.result course.accesses c.halted.result) (sym c.at-from.ensures)
    (subst (λ (since : Option ℕ). RunsWell start c.args.run.now.cycles start.at c.frames_between.result course.accesses since) (sym halted)
    (ends-well start c.args.run.now.cycles course.machine course.accesses c.frames_between.result at c.segments.invariant.1 finished c.states_keep_laws.ensures c.lists_end_as_run.ensures c.requires.end
    c.kept.ensures))

pub returns-in-Ok-clause-files : goal.returns-in-Ok-clause-files
returns-in-Ok-clause-files g c = λ t first holds.
    let course = c.segments.course in
    let start : Start = start_in c.args.course in
    let at : cycle_of course ≡ c.args.run.now.cycles = omega (arith, c.segments.invariant.0, c.segments-test.false, c.at.ensures) in
    let held : HoldsUntil start (shown_run c.args.run.now) first (g.D.Depot.state c.segments.depot).files c.args.run.now.cycles =
    subst (λ (n : ℕ). HoldsUntil start (shown_run c.args.run.now) first (g.D.Depot.state c.segments.depot).files n) at (c.segments.invariant.4 t first holds) in
    state-held (shown_run c.args.run.now) start first (g.D.Depot.state c.segments.depot).files (g.D.Depot.state c.save.new.depot).files
    (state_bytes course.machine.at course.machine.console)
    (state-found start course.machine course.accesses c.segments.invariant.1 (omega (arith, at, c.requires.end.1)) ∙ ap (state_to start) at)
    (c.in-Ok.ensures.files t) held

pub returns-clause-files : goal.returns-clause-files
returns-clause-files g c = λ t first holds.
    let course = c.segments.course in
    let start : Start = start_in c.args.course in
    let at : cycle_of course ≡ c.args.run.now.cycles = omega (arith, c.segments.invariant.0, c.segments-test.false, c.at.ensures) in
    let held : HoldsUntil start (shown_run c.args.run.now) first (g.D.Depot.state c.segments.depot).files c.args.run.now.cycles =
    subst (λ (n : ℕ). HoldsUntil start (shown_run c.args.run.now) first (g.D.Depot.state c.segments.depot).files n) at (c.segments.invariant.4 t first holds) in
    fault-leaves start (shown_run c.args.run.now) first (g.D.Depot.state c.save.new.depot).files (g.D.Depot.state c.segments.depot) (g.D.Depot.state c.save.new.depot)
    c.in-Err-save.outcome c.in-Err-save.ensures.err
    (state-parts (shown_run c.args.run.now) start first (g.D.Depot.state c.segments.depot).files (g.D.Depot.state c.save.new.depot).files
    (state_bytes course.machine.at course.machine.console)
    (state-found start course.machine course.accesses c.segments.invariant.1 (omega (arith, at, c.requires.end.1)) ∙ ap (state_to start) at)
    (c.in-Err-save.ensures.err_files t) held)

pub returns-in-Err-clause-memory : goal.returns-in-Err-clause-memory
returns-in-Err-clause-memory g c =
    fault-not_memory (shown_run c.args.run.now) (g.D.Depot.state c.segments.depot) (g.D.Depot.state c.run_segment.new.depot) c.in-Err.outcome c.in-Err.ensures.err

pub returns-clause-memory : goal.returns-clause-memory
returns-clause-memory g c =
    fault-not_memory (shown_run c.args.run.now) (g.D.Depot.state c.segments.depot) (g.D.Depot.state c.save.new.depot) c.in-Err-save.outcome c.in-Err-save.ensures.err

pub save-requires-clause-buffers : goal.save-requires-clause-buffers
save-requires-clause-buffers g c = c.segments.invariant.5
