use Rattle.m68k_chip.specs.States.{state_of}
use Rattle.m68k_chip.proofs.Waiting.{moved-predicted, moved-waits}
use Rattle.m68k_chip.proofs.sequencer.Sequencer.answer.Goals as goal

pub returns-in-Word-clause-waiting : goal.returns-in-Word-clause-waiting
returns-in-Word-clause-waiting c =
    moved-waits c.args.cart.now (state_of c.args.self.now c.args.ram.now) _ c.args.answer.now.cost c.move_word.new.self.request (c.move_word.ensures c.args.ram.now)

pub returns-in-Word-clause-predicted : goal.returns-in-Word-clause-predicted
returns-in-Word-clause-predicted c =
    moved-predicted c.args.cart.now (state_of c.args.self.now c.args.ram.now) _ c.args.answer.now.cost c.move_word.new.self.predicted (c.move_word.ensures c.args.ram.now)
