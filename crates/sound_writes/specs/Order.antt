-- Writes with stamps, of any kind A; `stamp` gives the cycle of a write.
use Rattle.std.specs.Prelude.{ℕ, ◌<◌, ◌≤◌, nat_le, nat_lt, Bool, ◌&&◌, List, [], ◌∷◌, filter}

-- whether a write is stamped below a cycle
abbrev pub is_below : {A : Type 0} → (A → ℕ) → ℕ → A → Bool
is_below stamp cycle w = nat_lt (stamp w) cycle

-- whether it is stamped at a cycle or later
abbrev pub is_from : {A : Type 0} → (A → ℕ) → ℕ → A → Bool
is_from stamp cycle w = nat_le cycle (stamp w)

-- the writes stamped from one cycle on and below another
abbrev pub stamped : {A : Type 0} → (A → ℕ) → ℕ → ℕ → List A → List A
stamped stamp from to writes = filter (λ w. nat_le from (stamp w) && nat_lt (stamp w) to) writes

-- stamped from one cycle on and below another, in the order of their stamps
abbrev pub IsInOrder : {A : Type 0} → (A → ℕ) → ℕ → ℕ → List A → Type 0
IsInOrder stamp from to [] = Unit {0}
IsInOrder stamp from to (w ∷ ws) = (from ≤ stamp w) × (stamp w < to) × IsInOrder stamp (stamp w) to ws
