-- Operators of which nothing is heard.
use Rattle.std.specs.Prelude.{ℕ, ◌<◌, ◌≤◌, List, slice_index}

-- nothing is left of the waves of all four operators
abbrev pub AreSilent : List ℕ → Type 0
AreSilent attenuations = (n : ℕ) → n < 4 → 832 ≤ slice_index attenuations n
