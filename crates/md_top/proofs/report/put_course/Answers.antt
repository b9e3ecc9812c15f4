use Rattle.std.specs.Prelude.{codes}
use Rattle.md_top.specs.Texts.{number_line, numbers_line}
use Rattle.md_top.proofs.Puts.{puts_on, puts_stop}
use Rattle.md_top.proofs.report.put_course.Goals as goal

pub returns-in-Ok : goal.returns-in-Ok
returns-in-Ok g c =
    puts_on g.S.Sink.observable (numbers_line (codes "cycles ") c.args.from (codes " to ") c.args.end) (number_line (codes "frames ") c.args.frames) (g.S.Sink.state c.args.out.now)
    (g.S.Sink.state c.put_numbers.new.out) (g.S.Sink.state c.put_number.new.out) c.put_number.result
    (c.in-Ok.ensures {u = tt}) c.put_number.ensures

pub returns-in-Err : goal.returns-in-Err
returns-in-Err g c =
    puts_stop g.S.Sink.observable (numbers_line (codes "cycles ") c.args.from (codes " to ") c.args.end) (number_line (codes "frames ") c.args.frames) (g.S.Sink.state c.args.out.now)
    (g.S.Sink.state c.put_numbers.new.out) c.in-Err.failed c.in-Err.failed (c.in-Err.ensures {u = tt})
