use Rattle.std.proofs.Common.{◌≡◌, length}
use Rattle.psg_sound.specs.Batches.{made_below}
use Rattle.psg_sound.proofs.synth.PsgSynth.write_below.Given as goal

abbrev pub invariant-loop-rest : goal.invariant-loop-rest
invariant-loop-rest l = made_below l.cycle l.self l.rest ≡ made_below l.cycle l.fn.self l.writes

abbrev pub decreases-loop-rest : goal.decreases-loop-rest
decreases-loop-rest l = length l.rest
