use Rattle.std.specs.Prelude.{◌++◌, codes, decimal}
use Rattle.md_top.specs.Debuggings.{fault_text}
use Rattle.md_top.proofs.Puts.{puts_on, puts_stop}
use Rattle.md_top.proofs.debugging.put_script_line.Goals as goal

pub returns-in-Ok : goal.returns-in-Ok
returns-in-Ok g c =
    puts_on g.S.Sink.observable (codes "refused: script line " ++ decimal c.args.line) (fault_text c.args.fault) (g.S.Sink.state c.args.out.now)
    (g.S.Sink.state c.put_two.new.out) (g.S.Sink.state c.put_fault.new.out) c.put_fault.result
    (rw c.format.ensures.text at (rw c.as_bytes.ensures.value at (c.in-Ok.ensures {u = tt}))) c.put_fault.ensures

pub returns-in-Err : goal.returns-in-Err
returns-in-Err g c =
    puts_stop g.S.Sink.observable (codes "refused: script line " ++ decimal c.args.line) (fault_text c.args.fault) (g.S.Sink.state c.args.out.now)
    (g.S.Sink.state c.put_two.new.out) c.in-Err.failed c.in-Err.failed (rw c.format.ensures.text at (rw c.as_bytes.ensures.value at (c.in-Err.ensures {u = tt})))
