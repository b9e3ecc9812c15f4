-- The files in memory that were begun.
use Rattle.std.specs.Prelude.{ℕ, List}
use Rattle.md_outer.specs.Names.{names_of}
use Rattle.md_outer.specs.Numbers.{begun_files}
use Rattle.md_outer.specs.Outside.{Files}
use Rattle.md_outer.specs.Rooms.{bytes_in}
use Rattle.md_outer.specs.declared.begun.Begun.{Begun}

-- the names of the begun files, in the order of their numbers
abbrev pub begun_names : Begun → List (List ℕ)
begun_names begun = names_of begun.names

-- what the begun files hold
abbrev pub files_of : Begun → Files
files_of begun = begun_files (names_of begun.names) (bytes_in begun.buffers.items)
