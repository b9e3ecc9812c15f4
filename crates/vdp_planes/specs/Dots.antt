-- A dot of a plane or of the sprites, and the word that holds it.
use Rattle.std.specs.Prelude.{ℕ, ◌+◌, ◌/◌, ◌%◌, Bool, ◌==◌, if◌then◌else◌}

-- a colour, palette · 16 + index, and the priority of the name
pub record Dot : Type 0 where
  pub colour : ℕ
  pub priority : Bool

-- the dot that a word holds: the colour in its lower byte, the priority in bit 8
abbrev pub dot_of : ℕ → Dot
dot_of word = record { colour = word % 256; priority = (word / 256 % 2 == 1) }

-- the word that holds a dot
abbrev pub word_of : Dot → ℕ
word_of d = if d.priority then d.colour + 256 else d.colour
