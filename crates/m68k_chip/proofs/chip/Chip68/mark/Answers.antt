use Rattle.std.proofs.Common.{subst}
use Rattle.std.specs.Arc.{arc_value}
use Rattle.m68k_chip.specs.Repetitions.{IsMarked}
use Rattle.m68k_chip.specs.Validity.{Chip68Value}
use Rattle.m68k_chip.proofs.chip.Chip68.mark.Goals as goal

pub returns-clause-marked : goal.returns-clause-marked
returns-clause-marked c = λ level. subst (λ (v : Chip68Value). IsMarked c.mark.new.mark v.cart level v.state) c.self.view_is (c.mark.ensures.marked (arc_value c.self.inside.cart) c.self.inside.ram.value level)
