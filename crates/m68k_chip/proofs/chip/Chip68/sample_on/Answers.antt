use Rattle.std.proofs.Common.{refl}
use Rattle.m68k_chip.proofs.Repetitions.{leads-none}
use Rattle.m68k_chip.proofs.Rounds.{all-on, on-later}
use Rattle.m68k_chip.proofs.chip.Chip68.sample_on.Goals as goal

pub returns-then-samples_below-clause-state : goal.returns-then-samples_below-clause-state
returns-then-samples_below-clause-state c =
    let found = c.samples_below.ensures.value.0 c.if-samples_below.true in
    all-on c.args.self.now.cart c.args.pins.level c.args.end c.sample_ahead.result c.args.self.now.state c.sample_ahead.new.self.state c.sample_ahead.ensures.state found.0 found.1

pub returns-then-samples_below-clause-later : goal.returns-then-samples_below-clause-later
returns-then-samples_below-clause-later c =
    let found = c.samples_below.ensures.value.0 c.if-samples_below.true in
    on-later c.args.self.now c.args.pins.level c.args.end c.sample_ahead.result c.sample_ahead.new.self.state c.args.pins.known c.samples_below.ensures.valid
    (all-on c.args.self.now.cart c.args.pins.level c.args.end c.sample_ahead.result c.args.self.now.state c.sample_ahead.new.self.state c.sample_ahead.ensures.state found.0 found.1)

pub returns-else-samples_below-clause-state : goal.returns-else-samples_below-clause-state
returns-else-samples_below-clause-state c = leads-none c.args.end c.args.self.now.cart c.args.pins.level c.args.self.now.state c.args.self.now.state refl
