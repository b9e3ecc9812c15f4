use Rattle.m68k_chip.specs.States.{state_of}
use Rattle.m68k_chip.proofs.Waiting.{went-predicted, went-waits}
use Rattle.m68k_chip.proofs.sequencer.Sequencer.begin_with.Goals as goal

pub returns-else-cause-eq0-clause-waiting : goal.returns-else-cause-eq0-clause-waiting
returns-else-cause-eq0-clause-waiting c =
    went-waits c.args.cart.now (state_of c.args.self.now c.args.ram.now) c.args.cause c.args.self.now.answers.items _ _ c.go_on.ensures.state c.go_on.ensures.reported

pub returns-else-cause-eq0-clause-predicted : goal.returns-else-cause-eq0-clause-predicted
returns-else-cause-eq0-clause-predicted c =
    went-predicted c.args.cart.now (state_of c.args.self.now c.args.ram.now) c.args.cause c.args.self.now.answers.items _ _ c.go_on.ensures.state c.go_on.ensures.predicted_end
