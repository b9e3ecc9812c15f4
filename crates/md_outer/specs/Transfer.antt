-- What is written to a writer and read from a reader whose bytes are known.
use Rattle.std.specs.Prelude.{◌≡◌, ℕ, ◌+◌, ◌-◌, ◌^◌, ◌<◌, ◌≤◌, min, List, ◌++◌, length, Bool, true, false, Option}
use Rattle.std.specs.Io.KnownBytes.{Appends, Consumes, IsAtEnd}
use Rattle.md_outer.specs.Outside.{IsPrefix}

-- a prefix of the piece comes after what was written before
abbrev pub AppendsPart : List ℕ → Option (List ℕ) → Option (List ℕ) → Type 0
AppendsPart piece old new = (part : List ℕ) × IsPrefix part piece × Appends old new part

-- so many more are counted, up to the end of the count
abbrev pub Counts : ℕ → ℕ → ℕ → Type 0
Counts before more after = (min (before + more) (2 ^ 64 - 1) ≤ after) × (after ≤ before + more)

-- at most so many bytes were taken from the front, and they were counted
abbrev pub TakesAtMost : ℕ → Option (List ℕ) → Option (List ℕ) → ℕ → ℕ → Type 0
TakesAtMost most old new before after = (taken : List ℕ) × Consumes old new taken × (length taken ≤ most) × Counts before (length taken) after

-- a read's bytes come after those that were there, and were counted; where it gave none, the end is reached
pub record AddsPart (most : ℕ) (more : Bool) (old new : Option (List ℕ)) (before after : List ℕ) (count counted : ℕ) : Type 0 where
  pub part : List ℕ
  pub taken : Consumes old new part
  pub fits : length part ≤ most
  pub added : after ≡ before ++ part
  pub counts : Counts count (length part) counted
  pub some : more ≡ true → 0 < length part
  pub none : more ≡ false → length part ≡ 0
  pub end : more ≡ false → IsAtEnd new
