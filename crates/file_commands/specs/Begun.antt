-- A file that is begun, if one is asked for.
use Rattle.std.specs.Prelude.{◌≡◌, ℕ, List, ◌++◌, Option, Some, None}
use Rattle.md_outer.specs.Outside.{DepotState, Files, bytes_of, with_file}

abbrev pub IsBegun : DepotState → Option ℕ → Option (List ℕ) → Type 0
IsBegun state (Some file) (Some name) = state.begun file ≡ Some name
IsBegun state (Some file) None = ⊥
IsBegun state None (Some name) = ⊥
IsBegun state None None = Unit {0}

-- the files with more bytes at the end of that file
abbrev pub with_more : Option (List ℕ) → Files → List ℕ → Files
with_more None files piece = files
with_more (Some name) files piece = with_file files name (bytes_of files name ++ piece)
