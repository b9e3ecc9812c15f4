use Rattle.std.proofs.Common.{◌≡◌, ◌∙◌, ℕ, ◌+◌, ◌*◌, ◌<◌, List, ◌++◌, ap, arith, inr, refl}
use Rattle.std.proofs.lemmas.Result.{IfErr-weaker, IfOk-weaker}
use Rattle.md_word.specs.Clock.{batch as batch_length}
use Rattle.md_files.specs.Wav.{wav_head}
use Rattle.md_vgm.specs.Clocks.{stamp_of}
use Rattle.md_vgm.specs.Course.{fm_before, psg_before, stamp}
use Rattle.md_vgm.specs.Playing.{batches_below, pairs, sound_file}
use Rattle.md_vgm.proofs.Playings.{whole_sound}
use Rattle.md_vgm.proofs.playing.play.Goals as goal

pub returns-clause-played : goal.returns-clause-played
returns-clause-played c =
    let file = c.args.file.now in
    let pal = c.args.pal in
    let found = c.in-Ok-end_of.ensures.first in
    let n = found.0 in
    let cycle : c.stamp_of.result ≡ stamp pal file n = c.stamp_of.ensures ∙ ap (stamp_of pal) found.2.1 in
    let batches : c.batches_below.result ≡ batches_below (stamp pal file n) = c.batches_below.ensures ∙ ap batches_below cycle in
    IfOk-weaker c.sound.result _ _
    (λ sound h. (
      c.in-Ok.ensures.0,
      (
        n,
        found.1,
        found.2.0,
        h.3 ∙ ap (λ (l : List ℕ). wav_head (16 * c.batches_below.result) pal ++ l) (whole_sound pal file c.batches_below.result h.0 n h.1 found.2.0 h.2)
            ∙ ap (λ (k : ℕ). wav_head (16 * k) pal ++ pairs (psg_before pal file n) (fm_before pal file n) k) batches,
      ),
    ))
    c.sound.ensures.sound

pub returns-clause-fault : goal.returns-clause-fault
returns-clause-fault c =
    let file = c.args.file.now in
    let pal = c.args.pal in
    let found = c.in-Ok-end_of.ensures.first in
    let n = found.0 in
    let cycle : c.stamp_of.result ≡ stamp pal file n = c.stamp_of.ensures ∙ ap (stamp_of pal) found.2.1 in
    let batches : c.batches_below.result ≡ batches_below (stamp pal file n) = c.batches_below.ensures ∙ ap batches_below cycle in
    let below : batch_length * c.batches_below.result < stamp pal file n + 1 = omega arith in
    IfErr-weaker c.sound.result _ _
    (λ fault h. inr (
      h,
      (sound_file pal (psg_before pal file n) (fm_before pal file n) (stamp pal file n), (c.in-Ok.ensures.0, (n, found.1, found.2.0, refl))),
    ))
    (c.sound.ensures.fine n found.1 found.2.0 below)
