use Rattle.std.proofs.Common.{◌<◌, rules, arith}
use Rattle.fm_port.specs.Timers.{both_settled, period_a, period_b}
use Rattle.fm_port.proofs.Overflows.{both_settled_twice}
use Rattle.fm_port.proofs.Timing.{both_timed}
use Rattle.fm_port.proofs.timers.Timers.settle.Goals as goal

pub returns-clause-value : goal.returns-clause-value
unfolding both_settled
returns-clause-value c = search rules

pub returns-clause-later : goal.returns-clause-later
returns-clause-later c =
    let least_a : 0 < period_a c.args.self.now = omega (arith, c.period_a-period_a.ensures.value, c.period_a-period_a.ensures.least) in
    let least_b : 0 < period_b c.args.self.now = omega (arith, c.period_b-period_b.ensures.value, c.period_b-period_b.ensures.least) in
    λ later h. both_settled_twice c.args.cycle later c.args.self.now _ least_a least_b (returns-clause-value c) h

pub returns-clause-timed : goal.returns-clause-timed
returns-clause-timed c =
    let least_a : 0 < period_a c.args.self.now = omega (arith, c.period_a-period_a.ensures.value, c.period_a-period_a.ensures.least) in
    let least_b : 0 < period_b c.args.self.now = omega (arith, c.period_b-period_b.ensures.value, c.period_b-period_b.ensures.least) in
    both_timed c.args.cycle c.args.self.now _ least_a least_b (returns-clause-value c)
