use Rattle.fm_chip.proofs.SynthKept.{synth_spelled}
use Rattle.fm_chip.proofs.synth.FmSynth.spell.Goals as goal

pub returns-clause-kept : goal.returns-clause-kept
returns-clause-kept c = rw (← c.self.view_is) (synth_spelled _ c.self.invariant.0)
