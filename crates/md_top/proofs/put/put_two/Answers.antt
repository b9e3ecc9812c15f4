use Rattle.md_top.proofs.Puts.{puts_on, puts_stop}
use Rattle.md_top.proofs.put.put_two.Goals as goal

pub returns-in-Ok : goal.returns-in-Ok
returns-in-Ok g c =
    puts_on g.S.Sink.observable c.args.first.now c.args.second.now (g.S.Sink.state c.args.out.now) (g.S.Sink.state c.put.new.self) (g.S.Sink.state c.put-in-Ok.new.self) c.put-in-Ok.result
    (rw c.as_bytes.ensures.value at (c.in-Ok.ensures {u = tt})) c.put-in-Ok.ensures

pub returns-in-Err : goal.returns-in-Err
returns-in-Err g c =
    puts_stop g.S.Sink.observable c.args.first.now c.args.second.now (g.S.Sink.state c.args.out.now) (g.S.Sink.state c.put.new.self) c.in-Err.failed c.in-Err.failed
    (rw c.as_bytes.ensures.value at (c.in-Err.ensures {u = tt}))
