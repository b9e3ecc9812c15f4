-- Files in a list.
use Rattle.std.specs.Prelude.{ℕ, List, String, Vec, string_bytes, find}
use Rattle.std.specs.Option.{option_map}
use Rattle.std.specs.Str.{bytes_eq}
use Rattle.std.specs.declared.alloc.Global.{Global}
use Rattle.md_outer.specs.Outside.{Files}

-- what a list of named files holds; the first of a name counts
abbrev pub listed_files : List (String Global × Vec ℕ Global) → Files
listed_files entries name = option_map (λ entry. entry.1.items) (find (λ entry. bytes_eq (string_bytes entry.0) name) entries)
