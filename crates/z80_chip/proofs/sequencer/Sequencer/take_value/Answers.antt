use Rattle.std.proofs.Common.{◌∙◌}
use Rattle.z80_chip.specs.States.{state_of}
use Rattle.z80_chip.proofs.Waiting.{ends-predicted_end, few-clocks}
use Rattle.z80_chip.proofs.sequencer.Sequencer.take_value.Goals as goal

pub end_predicted-requires-clause-t : goal.end_predicted-requires-clause-t
end_predicted-requires-clause-t c =
    few-clocks c.args.cart.now (state_of c.args.self.now c.args.parcel.now) c.args.self.now.cause c.args.self.now.predicted c.requires.predicts_end c.if-self.true

pub returns-then-self-clause-state : goal.returns-then-self-clause-state
returns-then-self-clause-state c =
    c.end_predicted.ensures.state c.args.parcel.now
    ∙ ends-predicted_end c.args.cart.now (state_of c.args.self.now c.args.parcel.now) c.args.value c.args.self.now.predicted c.requires.predicts_end c.if-self.true
