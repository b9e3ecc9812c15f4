use Rattle.std.proofs.Common.{◌≡◌, true, ℕ, length}
use Rattle.save_state.specs.Layout as layout
use Rattle.save_state.specs.Layout.{are_ordered}
use Rattle.save_state.proofs.layout.place_of.Given as goal

abbrev pub invariant-loop-rest : goal.invariant-loop-rest
invariant-loop-rest l = record {
  same : layout.place_of l.rest l.left ≡ layout.place_of l.parts l.place;
  ordered : (from : ℕ) × (are_ordered from l.rest ≡ true);
}

abbrev pub decreases-loop-rest : goal.decreases-loop-rest
decreases-loop-rest l = length l.rest
