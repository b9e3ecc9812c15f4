use Rattle.std.proofs.Common.{◌≡◌, subst}
use Rattle.m68k_chip.specs.Iterations.{sampling}
use Rattle.m68k_chip.specs.Validity.{Chip68Value}
use Rattle.m68k_chip.proofs.chip.Chip68.is_back.Goals as goal

pub returns-clause-sampling : goal.returns-clause-sampling
returns-clause-sampling c = λ back. subst (λ (v : Chip68Value). v.state ≡ sampling v.state.ram c.args.mark.now.regs v.state.next) c.self.view_is (c.is_back.ensures.sampling c.self.inside.ram.value back)
