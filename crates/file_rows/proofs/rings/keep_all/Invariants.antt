use Rattle.std.specs.Prelude.{◌≡◌}
use Rattle.file_rows.proofs.rings.keep_all.Given as goal

abbrev pub invariant-loop-word : goal.invariant-loop-word
invariant-loop-word l = l.ring.per_state ≡ 2
