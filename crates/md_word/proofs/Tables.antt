-- A bound on every entry of a table, by computation.
use Rattle.std.proofs.Common.{◌≡◌, ℕ, zero, suc, ◌≤◌, Bool, true, ◌&&◌, nat_le, List, [], ◌∷◌, slice_index, arith}

abbrev pub all_at_most : ℕ → List ℕ → Bool
all_at_most m [] = true
all_at_most m (x ∷ xs) = nat_le x m && all_at_most m xs

pub at_most : (m : ℕ) (xs : List ℕ) → all_at_most m xs ≡ true → (k : ℕ) → slice_index xs k ≤ m
at_most m [] e k = omega arith
at_most m (x ∷ xs) e zero = grind (arith, e)
at_most m (x ∷ xs) e (suc k) = at_most m xs (grind (arith, e)) k
