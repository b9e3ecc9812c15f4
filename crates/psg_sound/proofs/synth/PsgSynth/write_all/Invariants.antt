use Rattle.std.proofs.Common.{◌≡◌, take}
use Rattle.psg_sound.specs.Batches.{written_all}
use Rattle.psg_sound.proofs.synth.PsgSynth.write_all.Given as goal

abbrev pub invariant-loop-write : goal.invariant-loop-write
invariant-loop-write l = l.self ≡ written_all (take l.write-index l.writes) l.fn.self
