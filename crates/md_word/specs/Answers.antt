-- What both processors' instructions have in common: the answers of accesses that they have taken, and
-- what they have written.
use Rattle.std.specs.Prelude.{ℕ, ◌≡◌, ◌<◌, ◌≤◌, List, [], length, slice_index}

-- what an instruction has done: the answers taken, and the private writes, the oldest first, each with
-- its address and its byte
pub record Done : Type 0 where
  pub used : ℕ
  pub writes : List (ℕ × ℕ)

-- so many answers are taken, and nothing private is written
abbrev pub taken_alone : ℕ → Done
taken_alone count = record { used = count; writes = [] }

-- two memories are the same to what takes so many answers: what is private is the same, and the first
-- answers are
pub record SameBelow {M P : Type 0} (own : M → P) (given : M → List ℕ) (count : ℕ) (one other : M) : Type 0 where
  pub same : own other ≡ own one
  pub enough : count ≤ length (given other)
  pub answers : (k : ℕ) → k < count → slice_index (given other) k ≡ slice_index (given one) k
