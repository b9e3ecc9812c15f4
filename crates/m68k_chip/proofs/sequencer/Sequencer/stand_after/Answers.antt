use Rattle.std.proofs.Common.{ap}
use Rattle.m68k_chip.specs.States.{State68}
use Rattle.m68k_chip.specs.declared.stage.Stage.TheVariants.{Sample}
use Rattle.m68k_chip.proofs.sequencer.Sequencer.stand_after.Goals as goal

pub returns-clause-state : goal.returns-clause-state
returns-clause-state c = λ ram.
    ap (λ (s : State68). record s { next = c.args.cycle; stage = Sample; start = c.args.cycle; regs = c.args.regs.now }) (c.requires ram)
