use Rattle.std.specs.Prelude.{codes}
use Rattle.md_top.specs.Texts.{number_line}
use Rattle.md_top.proofs.Puts.{puts_on, puts_stop}
use Rattle.md_top.proofs.rolling.put_rolled_counts.Goals as goal

pub returns-in-Ok : goal.returns-in-Ok
returns-in-Ok g c =
    puts_on g.S.Sink.observable (number_line (codes "frames ") c.args.rolled.now.frames) (number_line (codes "confirmed ") c.args.rolled.now.confirmed) (g.S.Sink.state c.args.out.now)
    (g.S.Sink.state c.put_number.new.out) (g.S.Sink.state c.put_number-in-Ok.new.out) c.put_number-in-Ok.result
    (c.in-Ok.ensures {u = tt}) c.put_number-in-Ok.ensures

pub returns-in-Err : goal.returns-in-Err
returns-in-Err g c =
    puts_stop g.S.Sink.observable (number_line (codes "frames ") c.args.rolled.now.frames) (number_line (codes "confirmed ") c.args.rolled.now.confirmed) (g.S.Sink.state c.args.out.now)
    (g.S.Sink.state c.put_number.new.out) c.in-Err.failed c.in-Err.failed (c.in-Err.ensures {u = tt})
