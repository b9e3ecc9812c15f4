use Rattle.std.specs.Prelude.{◌++◌, codes}
use Rattle.md_top.specs.Texts.{digest_line}
use Rattle.md_top.proofs.Puts.{puts_on, puts_stop}
use Rattle.md_top.proofs.report_demo.put_digest_lines.Goals as goal

pub returns-in-Ok : goal.returns-in-Ok
returns-in-Ok g c =
    let digests = c.args.digests.now in
    puts_on g.S.Sink.observable (digest_line (codes "frames sha256 ") digests.frames ++ digest_line (codes "samples sha256 ") digests.samples) (digest_line (codes "journal sha256 ") digests.journal)
    (g.S.Sink.state c.args.out.now) (g.S.Sink.state c.put_media_digests.new.out) (g.S.Sink.state c.put_digest_line.new.out) c.put_digest_line.result
    (c.in-Ok.ensures {u = tt}) c.put_digest_line.ensures

pub returns-in-Err : goal.returns-in-Err
returns-in-Err g c =
    let digests = c.args.digests.now in
    puts_stop g.S.Sink.observable (digest_line (codes "frames sha256 ") digests.frames ++ digest_line (codes "samples sha256 ") digests.samples) (digest_line (codes "journal sha256 ") digests.journal)
    (g.S.Sink.state c.args.out.now) (g.S.Sink.state c.put_media_digests.new.out) c.in-Err.failed c.in-Err.failed (c.in-Err.ensures {u = tt})
