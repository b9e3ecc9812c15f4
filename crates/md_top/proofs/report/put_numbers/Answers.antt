use Rattle.std.specs.Prelude.{◌++◌, decimal}
use Rattle.md_top.specs.Texts.{number_line}
use Rattle.md_top.proofs.Puts.{puts_on, puts_stop}
use Rattle.md_top.proofs.report.put_numbers.Goals as goal

pub returns-in-Ok : goal.returns-in-Ok
returns-in-Ok g c =
    puts_on g.S.Sink.observable (c.args.first.now ++ decimal c.args.number) (number_line c.args.second.now c.args.other) (g.S.Sink.state c.args.out.now)
    (g.S.Sink.state c.put_two.new.out) (g.S.Sink.state c.put_number.new.out) c.put_number.result
    (rw c.format.ensures.text at (rw c.as_bytes.ensures.value at (c.in-Ok.ensures {u = tt}))) c.put_number.ensures

pub returns-in-Err : goal.returns-in-Err
returns-in-Err g c =
    puts_stop g.S.Sink.observable (c.args.first.now ++ decimal c.args.number) (number_line c.args.second.now c.args.other) (g.S.Sink.state c.args.out.now)
    (g.S.Sink.state c.put_two.new.out) c.in-Err.failed c.in-Err.failed (rw c.format.ensures.text at (rw c.as_bytes.ensures.value at (c.in-Err.ensures {u = tt})))
