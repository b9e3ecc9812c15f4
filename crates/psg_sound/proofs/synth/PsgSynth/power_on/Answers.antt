use Rattle.std.proofs.Common.{refl}
use Rattle.psg_sound.specs.History.{chip_before}
use Rattle.psg_sound.proofs.synth.PsgSynth.power_on.Goals as goal

pub returns-clause-history : goal.returns-clause-history
unfolding chip_before
returns-clause-history c = refl
