-- The fields of a saved state: their bytes, their sizes, and the first one whose rule fails.
use Rattle.std.specs.Prelude.{◌≡◌, ℕ, ◌+◌, ◌<◌, ◌^◌, Bool, true, List, [], ◌∷◌, ◌++◌, length, ◌*◌, Option, Some, None, if◌then◌else◌}
use Rattle.std.specs.List.{flat_map, AllByRecursion}
use Rattle.std.specs.Int.{w16, w32, w64, to_be_bytes}
use Rattle.md_fields.specs.declared.field.Field.{Field as CodeField}
use Rattle.md_fields.specs.declared.field.Field.TheVariants as code

-- a number of 1, 2, 4 or 8 bytes, so many words, or so many bytes; and whether its rule holds
pub data Field : Type 0 where
  byte : ℕ → Bool → Field
  word : ℕ → Bool → Field
  long : ℕ → Bool → Field
  quad : ℕ → Bool → Field
  words : ℕ → List ℕ → Bool → Field
  block : ℕ → List ℕ → Bool → Field

-- a field of the code, without where its words or bytes lie in memory
abbrev pub seen : CodeField → Field
seen (code.Byte number holds) = byte number holds
seen (code.Word number holds) = word number holds
seen (code.Long number holds) = long number holds
seen (code.Quad number holds) = quad number holds
seen (code.Words numbers holds) = words (length numbers.now) numbers.now holds
seen (code.Block bytes holds) = block (length bytes.now) bytes.now holds

-- the bytes of a field, the highest of a number first
abbrev pub bytes_of : Field → List ℕ
bytes_of (byte number holds) = number ∷ []
bytes_of (word number holds) = to_be_bytes w16 number
bytes_of (long number holds) = to_be_bytes w32 number
bytes_of (quad number holds) = to_be_bytes w64 number
bytes_of (words count numbers holds) = flat_map (to_be_bytes w16) numbers
bytes_of (block size bytes holds) = bytes

-- how many bytes a field has
abbrev pub size_of : Field → ℕ
size_of (byte number holds) = 1
size_of (word number holds) = 2
size_of (long number holds) = 4
size_of (quad number holds) = 8
size_of (words count numbers holds) = 2 * count
size_of (block size bytes holds) = size

-- whether the rule of a field holds
abbrev pub holds_of : Field → Bool
holds_of (byte number holds) = holds
holds_of (word number holds) = holds
holds_of (long number holds) = holds
holds_of (quad number holds) = holds
holds_of (words count numbers holds) = holds
holds_of (block size bytes holds) = holds

-- the value of a field fits its bytes
abbrev pub IsWithin : Field → Type 0
IsWithin (byte number holds) = number < 2 ^ 8
IsWithin (word number holds) = number < 2 ^ 16
IsWithin (long number holds) = number < 2 ^ 32
IsWithin (quad number holds) = number < 2 ^ 64
IsWithin (words count numbers holds) = (length numbers ≡ count) × AllByRecursion (λ n. n < 2 ^ 16) numbers
IsWithin (block size bytes holds) = length bytes ≡ size

-- each value fits its bytes
unfoldable pub AreWithin : List Field → Type 0
AreWithin [] = Unit {0}
AreWithin (field ∷ rest) = IsWithin field × AreWithin rest

-- the bytes of the fields, one after another
unfoldable pub spelling : List Field → List ℕ
spelling [] = []
spelling (field ∷ rest) = bytes_of field ++ spelling rest

-- the words or bytes of a field are as many as it says
abbrev pub IsSized : Field → Type 0
IsSized (byte number holds) = Unit {0}
IsSized (word number holds) = Unit {0}
IsSized (long number holds) = Unit {0}
IsSized (quad number holds) = Unit {0}
IsSized (words count numbers holds) = length numbers ≡ count
IsSized (block size bytes holds) = length bytes ≡ size

-- the words or bytes of each field are as many as it says
unfoldable pub AreSized : List Field → Type 0
AreSized [] = Unit {0}
AreSized (field ∷ rest) = IsSized field × AreSized rest

-- how many bytes the fields have together
unfoldable pub sizes : List Field → ℕ
sizes [] = 0
sizes (field ∷ rest) = size_of field + sizes rest

-- the offset of the first field whose rule fails, where the first field is at an offset
unfoldable pub first_invalid : ℕ → List Field → Option ℕ
first_invalid place [] = None
first_invalid place (field ∷ rest) = if holds_of field then first_invalid (place + size_of field) rest else Some place

-- the rule of each field holds
unfoldable pub AllHold : List Field → Type 0
AllHold [] = Unit {0}
AllHold (field ∷ rest) = (holds_of field ≡ true) × AllHold rest

-- the first of two places, where there is one
abbrev pub or_else : Option ℕ → Option ℕ → Option ℕ
or_else None next = next
or_else (Some place) next = Some place
