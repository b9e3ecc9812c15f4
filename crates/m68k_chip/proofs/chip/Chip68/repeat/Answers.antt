use Rattle.std.proofs.Common.{refl}
use Rattle.m68k_chip.proofs.Repetitions.{leads-none}
use Rattle.m68k_chip.proofs.chip.Chip68.repeat.Goals as goal

pub returns-then-mark-samples-clause-led : goal.returns-then-mark-samples-clause-led
returns-then-mark-samples-clause-led c = λ level marked. leads-none c.args.end c.args.self.now.cart level c.args.self.now.state c.args.self.now.state refl

pub returns-else-mark-samples-clause-led : goal.returns-else-mark-samples-clause-led
returns-else-mark-samples-clause-led c = λ level marked. leads-none c.args.end c.args.self.now.cart level c.args.self.now.state c.args.self.now.state refl

pub returns-else-mark-samples-clause-marked : goal.returns-else-mark-samples-clause-marked
returns-else-mark-samples-clause-marked c = λ level marked. c.mark.ensures.marked level
