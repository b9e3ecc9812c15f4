-- The register of begun files.
use Rattle.std.specs.Prelude.{ℕ, List, map, string_bytes}
use Rattle.md_outer.specs.declared.names.Names.{Names}

-- the names, in the order of their numbers
abbrev pub names_of : Names → List (List ℕ)
names_of names = map string_bytes names.held.items
