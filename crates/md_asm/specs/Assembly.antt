-- What a source is assembled to.
use Rattle.std.specs.Prelude.{ℕ, Bool, true, false, if◌then◌else◌, List, [], ◌∷◌, take}
use Rattle.text_lines.specs.Lines.{lines_of}
use Rattle.md_asm_text.specs.declared.body.Body.{Body}
use Rattle.md_asm_text.specs.declared.body.Body.TheVariants as bodies
use Rattle.md_asm.specs.Places.{blank}
use Rattle.md_asm.specs.Rounds.{Faulty, Filled, Outcome, Read, Refused, Round, Slot, Whole, round_one, round_two, start}
use Rattle.md_asm.specs.declared.kind.Kind.{Kind}
use Rattle.md_asm.specs.declared.kind.Kind.TheVariants as kinds
use Rattle.md_asm.specs.declared.placed.Placed.{Placed}

-- the number of a kind of faults
abbrev pub number_of : Kind → ℕ
number_of kinds.BadLine = 1
number_of kinds.BadNumber = 2
number_of kinds.Twice = 3
number_of kinds.Odd = 4
number_of kinds.Overlap = 5
number_of kinds.TooLarge = 6
number_of kinds.UnknownName = 7
number_of kinds.DoesNotFit = 8
number_of kinds.Far = 9

-- where a line is
abbrev pub placed_slot : Slot → Placed
placed_slot slot = record { place = slot.place; address = slot.address; z80 = slot.sub }

abbrev pub is_instruction : Body → Bool
is_instruction bodies.Instruction = true
is_instruction bodies.Words = false
is_instruction bodies.Bytes = false
is_instruction bodies.Nothing = false
is_instruction (bodies.Org place) = false
is_instruction bodies.Main = false
is_instruction (bodies.Sub at) = false
is_instruction bodies.Bad = false

-- the places of the instructions, in the order of the lines
unfoldable pub places_of : List Slot → List Placed
places_of [] = []
places_of (slot ∷ more) = if is_instruction slot.body then placed_slot slot ∷ places_of more else places_of more

-- the greatest length of a source that is assembled, in bytes
abbrev pub source_limit : ℕ
source_limit = 1048576

-- an image and where its instructions are, or the first line that is at fault and its least kind
pub data AssemblyOutcome : Type 0 where
  Done : List ℕ → List Placed → AssemblyOutcome
  Failed : ℕ → ℕ → AssemblyOutcome

abbrev pub assembly_of : Round → Filled → AssemblyOutcome
assembly_of round (Whole memory) = Done (take round.end memory) (places_of round.slots)
assembly_of round (Faulty line kind) = Failed line (number_of kind)

abbrev pub second : Outcome → AssemblyOutcome
second (Read round) = assembly_of round (round_two round.names blank round.slots)
second (Refused line kind) = Failed line (number_of kind)

-- A source's lines are read in their order, each with its place, its address and its length; then each that has
-- bytes is written at its place, with all names known. The image ends after the last byte that is written.
unfoldable pub assembly : List ℕ → AssemblyOutcome
assembly source = second (round_one start 1 (lines_of source))
