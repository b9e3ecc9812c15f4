use Rattle.std.proofs.Common.{ℕ, ◌+◌, ◌%◌, ◌^◌, Err, ap, ◌∙◌, arith}
use Rattle.std.proofs.lemmas.Bool.{ne_eqb}
use Rattle.m68k_access.specs.Clauses.{memory_of}
use Rattle.m68k_access.specs.declared.outcome.Outcome.{Outcome}
use Rattle.m68k_exec.proofs.Bounds.Steps as bounds
use Rattle.m68k_exec.proofs.Prediction.{instruction-predicts}
use Rattle.m68k_exec.proofs.sample.causes.instruction.Goals as goal

pub ended_by-requires-clause-most : goal.ended_by-requires-clause-most
ended_by-requires-clause-most c =
    bounds.most c.args.decoded.now.op _ _ (memory_of c.args.context.now) _ c.requires.fresh _ _ c.in-Ok.ensures.value

pub ended_by-requires-clause-ended : goal.ended_by-requires-clause-ended
ended_by-requires-clause-ended c =
    bounds.ended_within c.args.decoded.now.op _ _ (memory_of c.args.context.now) _ c.requires.fresh _ _ c.in-Ok.ensures.value

pub take_address_error-requires-in-Err-Odd-clause-used : goal.take_address_error-requires-in-Err-Odd-clause-used
take_address_error-requires-in-Err-Odd-clause-used c =
    omega (arith, c.restart.ensures.used, bounds.odd c.args.decoded.now.op _ _ (memory_of c.args.context.now) _ c.requires.fresh c.in-Err-Odd.address c.in-Err-Odd.read c.in-Err-Odd.used ((c.in-Err-Odd.ensures {u = tt}).value ∙ ap Err c.in-Err-Odd.field-0-is))

pub returns-then-predicted-clause-predicted : goal.returns-then-predicted-clause-predicted
returns-then-predicted-clause-predicted c =
    instruction-predicts Outcome c.args.decoded.now c.args.first c.args.regs.now (memory_of c.args.context.now) c.execute.new.predicted c.predict_finish.new.predicted c.in-Err-Ask.field-0 c.in-Err-Ask.request _ _
    (ne_eqb (c.args.regs.now.pc % 2) 1 c.if-start-eq1.false) c.in-Err-Ask.field-0-is (ap (λ (n : ℕ). (c.args.regs.now.pc + n) % 2 ^ 32) c.from.ensures) c.requires.fresh (c.in-Err-Ask.ensures {u = tt}).predicted
    c.predict_finish.ensures.known c.predict_finish.ensures.regs c.predict_finish.ensures.finish
