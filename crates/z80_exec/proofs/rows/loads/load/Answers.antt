use Rattle.std.proofs.Common.{Bool}
use Rattle.z80_exec.specs.Access.Clauses.{done_of, memory_of}
use Rattle.z80_exec.proofs.Prediction.{predicts-load}
use Rattle.z80_exec.proofs.rows.loads.load.Goals as goal

pub returns-in-Err-clause-predicted : goal.returns-in-Err-clause-predicted
returns-in-Err-clause-predicted c =
    predicts-load Bool c.in-Err.waiting c.put_last.new.predicted c.args.target c.args.source c.args.regs.now (memory_of c.args.context.now) (done_of c.args.progress.now)
    c.in_ok-value.value (done_of c.fetch.new.progress) c.in_ok-value.ensures.value c.in-Err.ensures.predicted
