-- An item of a saved state: numbers of some type, seen as fields. What bytes keep, and where bytes
-- that keep nothing go wrong.
use Rattle.std.specs.Prelude.{◌≡◌, ◌≢◌, ℕ, List, length, Some, None, min, ◌⊎◌}
use Rattle.md_fields.specs.Fields.{Field, AreWithin, spelling, first_invalid}

-- the bytes are those of these numbers
pub record Keeps {S : Type 0} (fields : S → List Field) (bytes : List ℕ) (saved : S) : Type 0 where
  pub within : AreWithin (fields saved)
  pub all : bytes ≡ spelling (fields saved)

-- no rule of these numbers fails
abbrev pub IsRight : {S : Type 0} → (S → List Field) → S → Type 0
IsRight fields saved = first_invalid 0 (fields saved) ≡ None

-- the bytes are those of some numbers, and this is the offset of the first field whose rule fails
pub record Breaks {S : Type 0} (fields : S → List Field) (bytes : List ℕ) (place : ℕ) : Type 0 where
  pub saved : S
  pub keeps : Keeps fields bytes saved
  pub first : first_invalid 0 (fields saved) ≡ Some place

-- an item of so many bytes is refused at this place: by its length, or by the first rule that fails
abbrev pub IsRefused : {S : Type 0} → ℕ → (S → List Field) → List ℕ → ℕ → Type 0
IsRefused size fields bytes place = ((length bytes ≢ size) × (place ≡ min (length bytes) size)) ⊎ Breaks fields bytes place
