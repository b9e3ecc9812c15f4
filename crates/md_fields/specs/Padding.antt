-- Lists that a saved state keeps with zeros after them, so that each has the same size.
use Rattle.std.specs.Prelude.{ℕ, ◌-◌, Bool, List, ◌++◌, length, replicate, ◌==◌}
use Rattle.std.specs.List.{list_all}

-- the numbers, and zeros after them up to a size
abbrev pub padded : ℕ → List ℕ → List ℕ
padded size numbers = numbers ++ replicate (size - length numbers) 0

-- all the numbers are zero
abbrev pub are_zeros : List ℕ → Bool
are_zeros numbers = list_all (λ n. n == 0) numbers
