use Rattle.md_top.specs.Texts.{counts_of, halted_line}
use Rattle.md_top.proofs.Puts.{puts_on, puts_stop}
use Rattle.md_top.proofs.report.put_lines.Goals as goal

pub returns-in-Ok : goal.returns-in-Ok
returns-in-Ok g c =
    puts_on g.S.Sink.observable (counts_of c.args.from c.args.end c.args.frames c.args.accesses) (halted_line c.args.halted) (g.S.Sink.state c.args.out.now)
    (g.S.Sink.state c.put_counts.new.out) (g.S.Sink.state c.put_halted.new.out) c.put_halted.result
    (c.in-Ok.ensures {u = tt}) c.put_halted.ensures

pub returns-in-Err : goal.returns-in-Err
returns-in-Err g c =
    puts_stop g.S.Sink.observable (counts_of c.args.from c.args.end c.args.frames c.args.accesses) (halted_line c.args.halted) (g.S.Sink.state c.args.out.now)
    (g.S.Sink.state c.put_counts.new.out) c.in-Err.failed c.in-Err.failed (c.in-Err.ensures {u = tt})
