use Rattle.std.proofs.Common.{◌≡◌, true, ℕ, ◌++◌, length}
use Rattle.save_state.specs.Layout as layout
use Rattle.save_state.specs.Layout.{are_ordered}
use Rattle.save_state.proofs.layout.gathered.Given as goal

abbrev pub invariant-loop-rest : goal.invariant-loop-rest
invariant-loop-rest l = record {
  whole : l.all.items ++ layout.gathered l.rest l.bytes ≡ layout.gathered l.parts l.bytes;
  ordered : (from : ℕ) × (are_ordered from l.rest ≡ true);
}

abbrev pub decreases-loop-rest : goal.decreases-loop-rest
decreases-loop-rest l = length l.rest
