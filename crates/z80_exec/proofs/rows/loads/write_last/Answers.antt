use Rattle.std.proofs.Common.{refl, arith}
use Rattle.std.proofs.lemmas.List.{nil_from_length}
use Rattle.z80_exec.specs.Access.Clauses.{done_of, memory_of}
use Rattle.z80_exec.proofs.Prediction.{write-following}
use Rattle.z80_exec.proofs.rows.loads.write_last.Goals as goal

pub returns-then-last-clause-predicted : goal.returns-then-last-clause-predicted
returns-then-last-clause-predicted c known = (
  refl,
  omega (arith, c.if-last.true),
  write-following c.args.at c.args.value (memory_of c.args.context.now) (done_of c.args.progress.now) _ c.in-Err.ensures.value c.if-last.true (nil_from_length _ c.requires.fresh),
)
