use Rattle.md_top.specs.Texts.{digest_lines, lines_of}
use Rattle.md_top.proofs.Puts.{puts_on, puts_stop}
use Rattle.md_top.proofs.report_demo.put_summary.Goals as goal

pub returns-in-Ok : goal.returns-in-Ok
returns-in-Ok g c =
    puts_on g.S.Sink.observable (lines_of 0 c.args.end c.args.summary.now.frames c.args.summary.now.accesses c.args.summary.now.halted) (digest_lines c.args.summary.now.digests)
    (g.S.Sink.state c.args.out.now) (g.S.Sink.state c.put_lines.new.out) (g.S.Sink.state c.put_digest_lines.new.out) c.put_digest_lines.result
    (c.in-Ok.ensures {u = tt}) c.put_digest_lines.ensures

pub returns-in-Err : goal.returns-in-Err
returns-in-Err g c =
    puts_stop g.S.Sink.observable (lines_of 0 c.args.end c.args.summary.now.frames c.args.summary.now.accesses c.args.summary.now.halted) (digest_lines c.args.summary.now.digests)
    (g.S.Sink.state c.args.out.now) (g.S.Sink.state c.put_lines.new.out) c.in-Err.failed c.in-Err.failed (c.in-Err.ensures {u = tt})
