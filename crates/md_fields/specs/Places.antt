-- Where the fields are in bytes.
use Rattle.std.specs.Prelude.{◌≡◌, ℕ, ◌+◌, ◌*◌, ◌<◌, List, [], ◌∷◌, length, get_or, take, drop, slice_index}
use Rattle.std.specs.Int.{Width, w16, w32, w64, byte_len, from_be_bytes}
use Rattle.md_fields.specs.Fields.{Field, byte, word, long, quad, words, block, size_of}

-- each number of the list is a byte
abbrev pub IsBytes : List ℕ → Type 0
IsBytes bytes = (i : ℕ) → get_or bytes i 0 < 256

-- the number of some width in the bytes from a place on, the highest byte first
unfoldable pub number_at : Width → ℕ → List ℕ → ℕ
number_at w place bytes = from_be_bytes w (take (byte_len w) (drop place bytes))

-- the numbers are those of two bytes each from a place on
abbrev pub WordsAt : List ℕ → ℕ → List ℕ → Type 0
WordsAt numbers place bytes = (k : ℕ) → k < length numbers → slice_index numbers k ≡ number_at w16 (place + 2 * k) bytes

-- the value of the field is the one at the offset
abbrev pub IsAt : Field → ℕ → List ℕ → Type 0
IsAt (byte number holds) place bytes = number ≡ slice_index bytes place
IsAt (word number holds) place bytes = number ≡ number_at w16 place bytes
IsAt (long number holds) place bytes = number ≡ number_at w32 place bytes
IsAt (quad number holds) place bytes = number ≡ number_at w64 place bytes
IsAt (words count numbers holds) place bytes = (length numbers ≡ count) × WordsAt numbers place bytes
IsAt (block size block_bytes holds) place bytes = block_bytes ≡ take size (drop place bytes)

-- the fields are one after another, from an offset to the end of the bytes
unfoldable pub Stand : ℕ → List Field → List ℕ → Type 0
Stand place [] bytes = length bytes ≡ place
Stand place (field ∷ rest) bytes = IsAt field place bytes × Stand (place + size_of field) rest bytes
