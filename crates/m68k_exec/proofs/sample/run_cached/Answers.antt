use Rattle.m68k_exec.proofs.Prediction.{sample-predicts}
use Rattle.m68k_exec.proofs.sample.run_cached.Goals as goal

pub returns-clause-predicted : goal.returns-clause-predicted
returns-clause-predicted c =
    rw (c.bytes.ensures.value, c.as_slice.ensures.value) at
    (sample-predicts c.sample.new.step c.sample.new.predicted c.args.cause c.args.regs.now _ _ _
    c.entry-found.ensures.decoded c.entry-found.ensures.first c.sample.ensures.predicted)
