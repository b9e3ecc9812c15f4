use Rattle.std.proofs.Common.{◌∙◌, ap, sym}
use Rattle.psg_sound.specs.Synth.{written}
use Rattle.psg_sound.specs.Batches.{write_made}
use Rattle.sound_writes.proofs.Courses.{written_all-more}
use Rattle.psg_sound.proofs.synth.PsgSynth.write_all.Goals as goal

pub loop-write-preserved : goal.loop-write-preserved
loop-write-preserved c =
    c.write.ensures ∙ ap (written _) c.loop-write.invariant
    ∙ sym (written_all-more write_made c.args.writes.now c.loop-write.write-index _ c.args.self.now c.loop-write-test.true)
