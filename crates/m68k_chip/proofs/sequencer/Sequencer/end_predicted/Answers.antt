use Rattle.std.proofs.Common.{[]}
use Rattle.m68k_chip.proofs.sequencer.Sequencer.end_predicted.Goals as goal

pub returns : goal.returns
returns c = λ ram. c.finish_in.ensures ram []
