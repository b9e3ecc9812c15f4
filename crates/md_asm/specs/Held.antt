-- What an image holds of the lines of its source.
use Rattle.std.specs.Prelude.{ℕ, ◌≡◌, ◌+◌, ◌<◌, Bool, true, false, List, [], ◌∷◌, length, slice_index}
use Rattle.text_lines.specs.Lines.{lines_of}
use Rattle.md_asm.specs.Contents.{Good}
use Rattle.md_asm.specs.Numbers.{Names}
use Rattle.md_asm.specs.Assembly.{places_of}
use Rattle.md_asm.specs.Rounds.{Read, Round, Slot, round_one, settled_slot, start}
use Rattle.md_asm.specs.declared.placed.Placed.{Placed}

-- bytes are at a place of a memory
abbrev pub StandsAt : List ℕ → ℕ → List ℕ → Type 0
StandsAt memory place bytes = (k : ℕ) → k < length bytes → slice_index memory (place + k) ≡ slice_index bytes k

-- an address of the Z80, or of the 68000
abbrev pub IsAddress : Bool → ℕ → Type 0
IsAddress true at = at < 65536
IsAddress false at = at < 4294967296

-- the bytes of a line, with all names known, are at its place
pub record IsHeld (image : List ℕ) (names : Names) (slot : Slot) : Type 0 where
  pub bytes : List ℕ
  pub settled : settled_slot names slot ≡ Good bytes
  pub stands : StandsAt image slot.place bytes
  pub addressed : IsAddress slot.sub slot.address

abbrev pub AreHeld : List ℕ → Names → List Slot → Type 0
AreHeld image names [] = Unit {0}
AreHeld image names (slot ∷ more) = IsHeld image names slot × AreHeld image names more

-- the lines that round one reads are those that are placed, and the image holds the bytes of each that has any
pub record HoldsLines (source image : List ℕ) (lines : List Placed) : Type 0 where
  pub round : Round
  pub read : round_one start 1 (lines_of source) ≡ Read round
  pub places : lines ≡ places_of round.slots
  pub held : AreHeld image round.names round.slots
