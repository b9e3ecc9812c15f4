use Rattle.std.proofs.Common.{◌∙◌, ap, sym}
use Rattle.sound_writes.proofs.Courses.{written_all-more}
use Rattle.fm_chip.specs.Synth.{written}
use Rattle.fm_chip.proofs.synth.FmSynth.write_all.Goals as goal

pub loop-write-preserved : goal.loop-write-preserved
loop-write-preserved c =
    c.write.ensures ∙ ap (λ w. written w c.loop-write.self) c.write-item.is ∙ ap (written _) c.loop-write.invariant
    ∙ sym (written_all-more written c.args.writes.now c.loop-write.write-index c.write-item.result c.args.self.now c.loop-write-test.true)
