use Rattle.std.proofs.Common.{◌+◌, arith}
use Rattle.md_debug.specs.Going.{least_of, start_of}
use Rattle.md_debug.proofs.Runs.{went_again, went_nowhere, went_quietly}
use Rattle.md_debug.proofs.debuggee.Debuggee.go_to.Goals as goal

pub events-init : goal.events-init
events-init c = (went_nowhere c.args.self.now c.requires.ready, omega (arith, c.requires.later))

pub events-smaller : goal.events-smaller
events-smaller c =
    let late = c.least_is_near.ensures.late (start_of c.events.self.machine) c.events.invariant.0.ready.start in
    let at = c.go_on.ensures.went.at in
    omega (arith, late, at, c.least.ensures, c.events-test.true)

pub events-preserved : goal.events-preserved
events-preserved c =
    let late = c.least_is_near.ensures.late (start_of c.events.self.machine) c.events.invariant.0.ready.start in
    let at = c.go_on.ensures.went.at in (
      went_again c.args.self.now c.events.self c.go_on.new.self (least_of c.events.self.machine.console + 1) c.events.invariant.0 c.go_on.ensures.went (omega (arith, late)),
      omega (arith, at, c.least.ensures, c.events-test.true),
    )

pub reach-requires-clause-near : goal.reach-requires-clause-near
reach-requires-clause-near c =
    let near = c.least_is_near.ensures.near (start_of c.events.self.machine) c.events.invariant.0.ready.start in
    omega (arith, near, c.least.ensures, c.events-test.false)

pub returns-then-at-end : goal.returns-then-at-end
returns-then-at-end c = record {
  went =
      went_quietly c.args.self.now c.events.self c.reach.new.self c.args.end c.events.invariant.0 c.events.invariant.1 (omega (arith, c.least.ensures, c.events-test.false)) c.reach.ensures.at
      c.reach.ensures.run c.reach.ensures.begun c.reach.ensures.ready;
}
