use Rattle.std.specs.Prelude.{◌++◌, codes}
use Rattle.run_command.specs.Counts.{pairs_between}
use Rattle.md_top.specs.Texts.{number_line, numbers_line}
use Rattle.md_top.proofs.Puts.{puts_on, puts_stop}
use Rattle.md_top.proofs.report.put_counts.Goals as goal

pub returns-in-Ok : goal.returns-in-Ok
returns-in-Ok g c =
    puts_on g.S.Sink.observable (numbers_line (codes "cycles ") c.args.from (codes " to ") c.args.end ++ number_line (codes "frames ") c.args.frames) (number_line (codes "samples ") (pairs_between c.args.from c.args.end) ++ number_line (codes "accesses ") c.args.accesses) (g.S.Sink.state c.args.out.now)
    (g.S.Sink.state c.put_course.new.out) (g.S.Sink.state c.put_made.new.out) c.put_made.result
    (c.in-Ok.ensures {u = tt}) (rw c.pairs_between.ensures at c.put_made.ensures)

pub returns-in-Err : goal.returns-in-Err
returns-in-Err g c =
    puts_stop g.S.Sink.observable (numbers_line (codes "cycles ") c.args.from (codes " to ") c.args.end ++ number_line (codes "frames ") c.args.frames) (number_line (codes "samples ") (pairs_between c.args.from c.args.end) ++ number_line (codes "accesses ") c.args.accesses) (g.S.Sink.state c.args.out.now)
    (g.S.Sink.state c.put_course.new.out) c.in-Err.failed c.in-Err.failed (c.in-Err.ensures {u = tt})
