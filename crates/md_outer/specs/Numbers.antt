-- The numbers of names: the places at which they are in a list, and the files that they mean.
use Rattle.std.specs.Prelude.{◌≡◌, ℕ, List, Option, Some, position, slice_get}
use Rattle.std.specs.Option.{option_or, option_and_then}
use Rattle.std.specs.Str.{bytes_eq}
use Rattle.md_outer.specs.Outside.{Files}

-- the place of a name, if it is in the list
abbrev pub number_of : List (List ℕ) → List ℕ → Option ℕ
number_of names name = position (λ held. bytes_eq held name) names

-- no name is at two places
abbrev pub AreApart : List (List ℕ) → Type 0
AreApart names = (number : ℕ) (name : List ℕ) → slice_get names number ≡ Some name → number_of names name ≡ Some number

-- what begun files hold: the bytes are in a list as the names are
abbrev pub begun_files : List (List ℕ) → List (List ℕ) → Files
begun_files names bytes name = option_and_then (slice_get bytes) (number_of names name)

-- the front files, and of those after them the ones whose names no front file has
abbrev pub over : Files → Files → Files
over front back name = option_or (front name) (back name)
