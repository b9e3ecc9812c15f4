use Rattle.std.proofs.Common.{◌≡◌, ◌∙◌, ap, ◌+◌, true, arith}
use Rattle.fm_port.specs.Timers.{is_due}
use Rattle.fm_port.proofs.Overflows.{settled_due, settled_twice}
use Rattle.fm_port.proofs.timer.Timer.settle.Goals as goal

pub returns-clause-value : goal.returns-clause-value
returns-clause-value c =
    let due : is_due c.args.cycle c.args.self.now ≡ true = grind (arith, c.if-not-is_due.false, c.is_due.ensures) in
    (λ i. record { run = c.args.self.now.run; next = c.last_overflow.result + c.args.period; flag = c.either-self.ensures i })
    ∙ settled_due c.args.cycle c.args.period c.args.enabled c.args.self.now _ c.requires.least due (ap (λ x. x + c.args.period) c.last_overflow.ensures.value)

pub returns-clause-later : goal.returns-clause-later
returns-clause-later c =
    λ later h. settled_twice c.args.cycle later c.args.period c.args.enabled c.args.self.now _ c.requires.least (returns-clause-value c) h
