-- The lines of a text. This project's profile.
use Rattle.std.specs.Prelude.{ℕ, ◌==◌, if◌then◌else◌, List, [], ◌∷◌}

-- lines whose first one has a byte more before it
abbrev pub with_first : ℕ → List (List ℕ) → List (List ℕ)
with_first byte [] = (byte ∷ []) ∷ []
with_first byte (line ∷ lines) = (byte ∷ line) ∷ lines

-- each line ends at a line feed, the last one at the end too; a text without bytes has no line
unfoldable pub lines_of : List ℕ → List (List ℕ)
lines_of [] = []
lines_of (byte ∷ rest) = if byte == 10 then [] ∷ lines_of rest else with_first byte (lines_of rest)
