use Rattle.fm_chip.proofs.SynthKept.{synth_spelled}
use Rattle.fm_chip.proofs.synth.FmSynth.is_read_again.Goals as goal

pub returns : goal.returns
returns c = rw (← c.self.view_is) (synth_spelled _ c.self.invariant.0)
