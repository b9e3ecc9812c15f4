use Rattle.std.proofs.Common.{◌≡◌, ℕ, ◌<◌, true, get_or}
use Rattle.page_ring.proofs.ring.differ.Given as goal

abbrev pub invariant-loop-index : goal.invariant-loop-index
invariant-loop-index l = record {
  same : l.is_same ≡ true → (k : ℕ) → k < l.index → get_or l.a k 0 ≡ get_or l.b k 0;
  other : ((k : ℕ) → k < l.index → get_or l.a k 0 ≡ get_or l.b k 0) → l.is_same ≡ true;
}
