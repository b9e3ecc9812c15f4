use Rattle.std.proofs.Common.{◌≡◌, ℕ, ◌||◌, ◌&&◌, nat_le, nat_lt, vec_len}
use Rattle.md_asm.specs.Seen.{cells_seen}
use Rattle.md_asm.specs.Places.{image_limit}
use Rattle.md_asm.proofs.cells.Cells.mark.Given as goal

abbrev pub invariant-loop-k : goal.invariant-loop-k
invariant-loop-k l = record {
  seen : (other : ℕ) → cells_seen l.self other ≡ (cells_seen l.fn.self other || (nat_le l.fn.place other && nat_lt other l.k));
  whole : vec_len l.self.marks ≡ image_limit;
}
