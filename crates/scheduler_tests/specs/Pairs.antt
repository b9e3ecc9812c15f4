-- A chip of a pair, as contracts see it.
use Rattle.std.specs.Prelude.{ℕ, Bool}

-- its number, and the cycle of its next event
pub record PairChip : Type 0 where
  pub number : ℕ
  pub cycle : ℕ
  -- whether its events are samples
  pub sample : Bool
