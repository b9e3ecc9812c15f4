use Rattle.std.proofs.Common.{ℕ, ◌+◌, ◌%◌, ◌^◌, ◌∙◌, Option, Some, Result, ap, refl, subst}
use Rattle.md_word.specs.declared.main_bus.Request68.{Request68}
use Rattle.m68k_access.specs.Clauses.{done_of, memory_of}
use Rattle.m68k_exec.specs.Rows.Moves.{move_operand}
use Rattle.m68k_exec.specs.Sample.Private.{Moves}
use Rattle.m68k_exec.proofs.Private.{move-ends, move-waits}
use Rattle.m68k_exec.proofs.sample.private.run_move.Goals as goal

pub returns-in-Some-Ok : goal.returns-in-Some-Ok
returns-in-Some-Ok c =
    let pc = c.args.regs.now.pc in
    let moved = subst (λ (result : Option (Result (Unit {0}) Request68)). Moves result c.move_operand.new.predicted (move_operand c.args.size c.args.source c.args.target pc (record (c.args.regs.now) { pc = (pc + c.from.result) % 2 ^ 32 }))
    c.move_operand.new.regs (memory_of c.args.context.now) (done_of c.move_operand.new.progress)) (c.in-Some-Ok.is ∙ ap Some c.in-Some-Ok.field-0-is) c.move_operand.ensures in
    move-ends c.args.found.now.decoded c.args.found.now.first c.from-in-Some-Ok.result ((pc + c.from.result) % 2 ^ 32) c.args.size c.args.source c.args.target c.args.regs.now c.move_operand.new.regs (memory_of c.args.context.now)
    (done_of c.move_operand.new.progress) c.requires.is (rw c.requires.even refl) c.requires.untraced c.requires.alone (ap (λ (n : ℕ). (pc + n) % 2 ^ 32) c.from.ensures) moved (c.from-in-Some-Ok.ensures ∙ c.requires.clocks)

pub returns-in-Some-Err : goal.returns-in-Some-Err
returns-in-Some-Err c =
    let pc = c.args.regs.now.pc in
    let moved = subst (λ (result : Option (Result (Unit {0}) Request68)). Moves result c.move_operand.new.predicted (move_operand c.args.size c.args.source c.args.target pc (record (c.args.regs.now) { pc = (pc + c.from.result) % 2 ^ 32 }))
    c.move_operand.new.regs (memory_of c.args.context.now) (done_of c.move_operand.new.progress)) (c.in-Some-Err.is ∙ ap Some c.in-Some-Err.field-0-is) c.move_operand.ensures in (
      move-waits c.args.found.now.decoded c.args.found.now.first ((pc + c.from.result) % 2 ^ 32) c.args.size c.args.source c.args.target c.args.regs.now (memory_of c.args.context.now) c.move_operand.new.predicted c.predict_finish.new.predicted
          c.in-Some-Err.request c.requires.is (rw c.requires.even refl) (ap (λ (n : ℕ). (pc + n) % 2 ^ 32) c.from.ensures) (moved.0) (moved.1) c.predict_finish.ensures.known c.predict_finish.ensures.regs c.predict_finish.ensures.finish,
      refl,
    )
