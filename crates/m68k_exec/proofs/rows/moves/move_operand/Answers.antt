use Rattle.std.proofs.Common.{Err, refl}
use Rattle.m68k_access.specs.Clauses.{done_of, memory_of}
use Rattle.m68k_access.specs.declared.outcome.Outcome.{Outcome}
use Rattle.m68k_exec.proofs.Prediction.{predicts-move}
use Rattle.m68k_exec.proofs.rows.moves.move_operand.Goals as goal

pub returns-in-Err-clause-predicted : goal.returns-in-Err-clause-predicted
returns-in-Err-clause-predicted c =
    predicts-move {A = Outcome} (Err c.in-Err.stop) c.in-Err.stop refl c.store_last.new.predicted c.args.size c.args.source c.args.target c.args.start c.args.regs.now (memory_of c.args.context.now) (done_of c.args.progress.now)
    (record { value = c.in_ok-from.from; regs = c.load.new.regs }) (done_of c.load.new.progress) c.in_ok-from.ensures.value
    (rw (c.after_source-pc.ensures, c.compute-out.ensures.value, c.flags-flags.ensures) at c.in-Err.ensures.predicted)
