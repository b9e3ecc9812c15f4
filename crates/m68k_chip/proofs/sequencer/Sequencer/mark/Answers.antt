use Rattle.m68k_chip.specs.Iterations.{sampling}
use Rattle.m68k_chip.specs.States.{state_of}
use Rattle.m68k_chip.proofs.Repetitions.{at-next, leads-none}
use Rattle.m68k_chip.proofs.sequencer.Sequencer.mark.Goals as goal

pub returns-clause-marked : goal.returns-clause-marked
returns-clause-marked c = λ cart ram level kept.
    leads-none c.args.self.now.next cart level (sampling ram c.args.self.now.regs c.args.self.now.next) (state_of c.args.self.now ram)
    (at-next ram c.args.self.now.regs c.args.self.now.start (state_of c.args.self.now ram) (c.is_sampling-mark.ensures ram kept))
