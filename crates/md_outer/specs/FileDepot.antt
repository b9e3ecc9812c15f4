-- The files of the system as a depot: the names of begun numbers and the counts of faults are observable.
use Rattle.std.specs.Prelude.{ℕ, None, slice_get}
use Rattle.std.specs.declared.io.traits.Read as Read
use Rattle.std.specs.declared.io.traits.Seek as Seek
use Rattle.std.specs.declared.io.traits.Write as Write
use Rattle.md_outer.specs.Names.{names_of}
use Rattle.md_outer.specs.Outside.{DepotState}
use Rattle.md_outer.specs.declared.file_depot.FileDepot.{FileDepot}

-- no files are observable; R is any runtime, with files F and folders D
abbrev pub file_state : {R F D : Type 0} {reads : Read.Ghosts F} {writes : Write.Ghosts F} {seeks : Seek.Ghosts F} {lists : Read.Ghosts D} → FileDepot R F D reads writes seeks lists → DepotState
file_state depot = record {
  files = λ name. None;
  begun = λ number. slice_get (names_of depot.names) number;
  read_faults = depot.read_faults;
  write_faults = depot.write_faults;
}

-- how many bytes the fetches have read in all, up to the end of the count
abbrev pub read_in : {R F D : Type 0} {reads : Read.Ghosts F} {writes : Write.Ghosts F} {seeks : Seek.Ghosts F} {lists : Read.Ghosts D} → FileDepot R F D reads writes seeks lists → ℕ
read_in depot = depot.read_bytes
