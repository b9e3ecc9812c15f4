use Rattle.std.proofs.Common.{Err, ap, ◌∙◌}
use Rattle.std.proofs.lemmas.List.{nil_from_length}
use Rattle.m68k_access.specs.Clauses.{done_of, memory_of}
use Rattle.m68k_exec.proofs.Prediction.{few-taken, write-following}
use Rattle.m68k_exec.proofs.rows.moves.write_last.Goals as goal

pub returns-then-last-clause-predicted : goal.returns-then-last-clause-predicted
returns-then-last-clause-predicted c known =
    let last = c.waits_for_last-last.ensures c.if-last.true in (
      c.set_flags.ensures,
      few-taken c.args.size _ _ last,
      write-following c.args.size c.args.address c.args.value (memory_of c.args.context.now) (done_of c.args.progress.now) c.in-Err-Ask.request
          ((c.in-Err-Ask.ensures {u = tt}).value ∙ ap Err c.in-Err-Ask.field-0-is) last (nil_from_length _ c.requires.fresh),
    )
