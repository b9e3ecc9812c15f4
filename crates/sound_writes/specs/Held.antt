-- The writes that a port holds until the synthesis takes them.
use Rattle.std.specs.Prelude.{ℕ, nat_lt, if◌then◌else◌, not, List, [], ◌∷◌, ◌++◌, length, filter}
use Rattle.sound_writes.specs.Order.{is_below}

-- how many writes a port holds at most
abbrev pub limit : ℕ
limit = 1024

-- a write goes after those that are held, and is lost where the port is full
abbrev pub held_with : {A : Type 0} → List A → A → List A
held_with writes w = if nat_lt (length writes) limit then writes ++ w ∷ [] else writes

-- the writes stamped below a cycle, in their order
abbrev pub taken_below : {A : Type 0} → (A → ℕ) → ℕ → List A → List A
taken_below stamp cycle writes = filter (is_below stamp cycle) writes

-- the writes stamped at a cycle or later, in their order
abbrev pub left_from : {A : Type 0} → (A → ℕ) → ℕ → List A → List A
left_from stamp cycle writes = filter (λ w. not (is_below stamp cycle w)) writes
