use Rattle.std.specs.Prelude.{codes}
use Rattle.md_top.specs.Texts.{digest_line}
use Rattle.md_top.specs.Rollings.{counts_lines}
use Rattle.md_top.proofs.Puts.{puts_on, puts_stop}
use Rattle.md_top.proofs.rolling.put_rolled.Goals as goal

pub returns-in-Ok : goal.returns-in-Ok
returns-in-Ok g c =
    puts_on g.S.Sink.observable (counts_lines c.args.rolled.now) (digest_line (codes "state sha256 ") c.args.rolled.now.digest) (g.S.Sink.state c.args.out.now)
    (g.S.Sink.state c.put_rolled_counts.new.out) (g.S.Sink.state c.put_digest_line.new.out) c.put_digest_line.result
    (c.in-Ok.ensures {u = tt}) c.put_digest_line.ensures

pub returns-in-Err : goal.returns-in-Err
returns-in-Err g c =
    puts_stop g.S.Sink.observable (counts_lines c.args.rolled.now) (digest_line (codes "state sha256 ") c.args.rolled.now.digest) (g.S.Sink.state c.args.out.now)
    (g.S.Sink.state c.put_rolled_counts.new.out) c.in-Err.failed c.in-Err.failed (c.in-Err.ensures {u = tt})
