use Rattle.std.proofs.Common.{◌∙◌, Err, ap, refl, subst}
use Rattle.m68k_access.specs.Clauses.{memory_of}
use Rattle.m68k_access.specs.declared.stop.Stop.{Stop}
use Rattle.m68k_exec.specs.Rows.Moves as moves
use Rattle.m68k_exec.specs.Sample.Prediction.{Predicts}
use Rattle.m68k_exec.specs.Sample.Samples.{nothing}
use Rattle.m68k_exec.proofs.Prediction.{predicts-move}
use Rattle.m68k_exec.proofs.PrivateRows.{move-asks}
use Rattle.m68k_exec.proofs.sample.private.stores.move_operand.Goals as goal

pub returns-in-Err-Ask : goal.returns-in-Err-Ask
returns-in-Err-Ask c = rw c.in-Err-Ask.request-is (
  move-asks c.args.size c.args.source c.args.target c.args.start c.in-Some.from c.args.regs.now c.operand.new.regs (memory_of c.args.context.now) c.in-Err-Ask.request c.in-Some.ensures.value
      (rw (c.after_source-pc.ensures, c.compute-out.ensures.value, c.flags-flags.ensures, c.requires.fresh) at ((c.in-Err-Ask.ensures {u = tt}).value ∙ ap Err c.in-Err-Ask.field-0-is)),
  subst (λ (stop : Stop). Predicts {A = Unit {0}} (Err stop) c.store_last.new.predicted (moves.move_operand c.args.size c.args.source c.args.target c.args.start c.args.regs.now) (memory_of c.args.context.now) nothing) c.in-Err-Ask.field-0-is
      (predicts-move {A = Unit {0}} (Err c.in-Err-Ask.field-0) c.in-Err-Ask.field-0 refl c.store_last.new.predicted c.args.size c.args.source c.args.target c.args.start c.args.regs.now (memory_of c.args.context.now) nothing
      (record { value = c.in-Some.from; regs = c.operand.new.regs }) nothing c.in-Some.ensures.value
      (rw (c.after_source-pc.ensures, c.compute-out.ensures.value, c.flags-flags.ensures, c.requires.fresh) at (c.in-Err-Ask.ensures {u = tt}).predicted)),
)
