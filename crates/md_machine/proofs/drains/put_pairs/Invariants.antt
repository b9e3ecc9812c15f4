use Rattle.std.proofs.Common.{◌≡◌, ◌+◌, ◌*◌, ◌++◌, length, vec_len, vec_capacity}
use Rattle.md_machine.specs.Outputs.{mixed_bytes}
use Rattle.md_machine.proofs.drains.put_pairs.Given as goal

abbrev pub invariant-loop-levels : goal.invariant-loop-levels
invariant-loop-levels l = record {
  bytes : l.into.items ++ mixed_bytes l.levels l.sides ≡ l.fn.into.items ++ mixed_bytes l.fn.levels l.fn.sides;
  length : vec_len l.into + 4 * length l.levels ≡ vec_len l.fn.into + 4 * length l.fn.levels;
  room : vec_capacity l.into ≡ vec_capacity l.fn.into;
}

abbrev pub decreases-loop-levels : goal.decreases-loop-levels
decreases-loop-levels l = length l.levels
