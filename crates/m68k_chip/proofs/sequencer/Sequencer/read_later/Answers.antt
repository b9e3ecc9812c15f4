use Rattle.std.proofs.Common.{◌+◌, ap}
use Rattle.m68k_chip.specs.Events.{step}
use Rattle.m68k_chip.specs.States.{State68}
use Rattle.m68k_chip.proofs.sequencer.Sequencer.read_later.Goals as goal

pub returns-clause-state : goal.returns-clause-state
returns-clause-state c = λ ram. ap (λ (s : State68). record s { next = c.args.start + step; start = c.args.start }) (c.requires.reading ram)
