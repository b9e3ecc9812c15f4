use Rattle.std.proofs.Common.{◌++◌}
use Rattle.md_top.proofs.Puts.{puts_on, puts_stop}
use Rattle.md_top.proofs.put.put_three.Goals as goal

pub returns-in-Ok : goal.returns-in-Ok
returns-in-Ok g c =
    puts_on g.S.Sink.observable (c.args.first.now ++ c.args.second.now) c.args.third.now (g.S.Sink.state c.args.out.now) (g.S.Sink.state c.put_two.new.out) (g.S.Sink.state c.put.new.self) c.put.result
    (c.in-Ok.ensures {u = tt}) (rw c.as_bytes.ensures.value at c.put.ensures)

pub returns-in-Err : goal.returns-in-Err
returns-in-Err g c =
    puts_stop g.S.Sink.observable (c.args.first.now ++ c.args.second.now) c.args.third.now (g.S.Sink.state c.args.out.now) (g.S.Sink.state c.put_two.new.out) c.in-Err.failed c.in-Err.failed
    (c.in-Err.ensures {u = tt})
