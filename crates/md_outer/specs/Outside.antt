-- What contracts see of the world outside: the files of a depot, and the bytes of a sink.
use Rattle.std.specs.Prelude.{◌≡◌, ℕ, ◌+◌, ◌-◌, ◌^◌, ◌≤◌, min, List, [], ◌++◌, Option, Some, unwrap_or, IsSome, Result, OnOk, OnErr, if◌then◌else◌}
use Rattle.std.specs.Str.{bytes_eq}

-- a count of faults rose; one that is at its end counts as risen
abbrev pub Rose : ℕ → ℕ → Type 0
Rose before now = min (before + 1) (2 ^ 64 - 1) ≤ now

-- the whole begins with this front
abbrev pub IsPrefix : List ℕ → List ℕ → Type 0
IsPrefix front whole = (rest : List ℕ) × (front ++ rest ≡ whole)

-- what the files of a depot hold, by their names
abbrev pub Files : Type 0
Files = List ℕ → Option (List ℕ)

-- this file holds these bytes, and all others are as they were
abbrev pub with_file : Files → List ℕ → List ℕ → Files
with_file files name bytes other = if bytes_eq name other then Some bytes else files other

-- the bytes of a file, of which one that is missing has none
abbrev pub bytes_of : Files → List ℕ → List ℕ
bytes_of files name = unwrap_or (files name) []

-- a depot: its files, the names of those that were begun by their numbers, and its counts of faults
pub record DepotState : Type 0 where
  pub files : Files
  pub begun : ℕ → Option (List ℕ)
  pub read_faults : ℕ
  pub write_faults : ℕ

-- no call lowers a count, or changes the name of a number
pub record GoesOn (old new : DepotState) : Type 0 where
  pub names : (file : ℕ) → IsSome (old.begun file) → new.begun file ≡ old.begun file
  pub reads : old.read_faults ≤ new.read_faults
  pub writes : old.write_faults ≤ new.write_faults

-- a sink: all bytes that were written, and its count of faults
pub record SinkState : Type 0 where
  pub bytes : List ℕ
  pub faults : ℕ

-- What a sink does with a text. It is written whole at Ok; at an error the count rose, and a prefix
-- was written. It speaks of the bytes where they are observable.
pub record PutsText {E : Type 0} (observable : Type 0) (text : List ℕ) (old new : SinkState) (result : Result (Unit {0}) E) : Type 0 where
  pub later : old.faults ≤ new.faults
  pub whole : OnOk result (observable → new.bytes ≡ old.bytes ++ text)
  pub failed : OnErr result (Rose old.faults new.faults)
  pub part : OnErr result (observable → (part : List ℕ) × IsPrefix part text × (new.bytes ≡ old.bytes ++ part))
