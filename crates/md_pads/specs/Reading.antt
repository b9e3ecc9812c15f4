-- What the steps of the reader say of bytes, which may be those of one version. `Recording` says what
-- a recording is.
use Rattle.std.specs.Prelude.{◌≡◌, ℕ, ◌+◌, ◌*◌, ◌%◌, ◌<◌, ◌≤◌, true, false, List, [], ◌∷◌, ◌++◌, length, take, slice_index}
use Rattle.std.specs.Int.{w16, w32, from_be_bytes}
use Rattle.md_pads.specs.Recording.{Frame, Spells, six, words}
use Rattle.md_pads.specs.declared.version.Version.{Version}
use Rattle.md_pads.specs.declared.version.Version.TheVariants.{First, Second}

-- every version
abbrev pub versions : List Version
versions = First ∷ Second false false ∷ Second true false ∷ Second false true ∷ Second true true ∷ []

-- the bytes spell a recording of the version
abbrev pub IsSpelledIn : Version → List ℕ → Type 0
IsSpelledIn version bytes = (frames : List Frame) × Spells bytes (record { version = version; frames = frames })

-- a recording of the version begins with these bytes
abbrev pub BeginsIn : Version → List ℕ → Type 0
BeginsIn version bytes = (frames : List Frame) × (rest : List ℕ) × Spells (bytes ++ rest) (record { version = version; frames = frames })

-- the length of the longest prefix of the bytes that a recording of the version begins with
pub record IsLongestIn (version : Version) (bytes : List ℕ) (place : ℕ) : Type 0 where
  pub within : place ≤ length bytes
  pub begins : BeginsIn version (take place bytes)
  pub longest : (n : ℕ) → n ≤ length bytes → BeginsIn version (take n bytes) → n ≤ place

-- the count after so many bytes, or the least that begins with those that are there
abbrev pub least_count : ℕ → List ℕ → ℕ
least_count start bytes =
    from_be_bytes w32 (slice_index bytes start ∷ slice_index bytes (start + 1) ∷ slice_index bytes (start + 2) ∷ slice_index bytes (start + 3) ∷ [])

-- the length of a recording with that count
abbrev pub whole_len : ℕ → List ℕ → ℕ
whole_len start bytes = start + 4 + 4 * least_count start bytes

-- so many bytes after the count a byte may be there: the upper one of a word has bits of buttons alone
abbrev pub HasByte : Version → ℕ → ℕ → Type 0
HasByte version offset byte =
    (offset % 4 ≡ 0 → 256 * byte < words (six version 1)) × (offset % 4 ≡ 2 → 256 * byte < words (six version 2))

-- each four bytes as the words of a frame
unfoldable pub frames_in : List ℕ → List Frame
frames_in (a ∷ b ∷ c ∷ d ∷ rest) = (from_be_bytes w16 (a ∷ b ∷ []), from_be_bytes w16 (c ∷ d ∷ [])) ∷ frames_in rest
frames_in _ = []
