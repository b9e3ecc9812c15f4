-- What the lines of a source say of its image.
use Rattle.std.specs.Prelude.{ℕ, ◌≡◌, ◌<◌, Bool, true, false, List, [], ◌∷◌}
use Rattle.m68k_decode.specs.Instructions as main
use Rattle.m68k_decode.specs.Nested.{nested}
use Rattle.z80_decode.specs.Instructions as sub
use Rattle.md_disasm.specs.Texts68 as main_texts
use Rattle.md_disasm.specs.Texts80 as sub_texts
use Rattle.md_asm_text.specs.Tokens.{Token, tokens}
use Rattle.asm_m68k.specs.Table.{AreWords, IsInstruction}
use Rattle.asm_z80.specs.Coded80.{AreBytes}
use Rattle.asm_z80.specs.Instruction.{is_db}
use Rattle.text_lines.specs.Lines.{lines_of}
use Rattle.md_asm.specs.Codes.{in_bytes}
use Rattle.md_asm.specs.Numbers.{Names, resolved}
use Rattle.asm_laws.specs.Chosen.{AreChosen, AreLeast}
use Rattle.md_asm.specs.Assembly.{is_instruction, places_of}
use Rattle.md_asm.specs.Held.{StandsAt}
use Rattle.md_asm.specs.Rounds.{Read, Round, Slot, round_one, start}
use Rattle.md_asm.specs.declared.placed.Placed.{Placed}
use Rattle.asm_laws.specs.Places.{bytes_from, text_at, words_from}

-- bytes are those of an instruction that is written at an address: of all that have its text they are chosen
abbrev pub IsWritten : Bool → List ℕ → List Token → ℕ → Type 0
IsWritten true bytes line_tokens at = AreChosen bytes line_tokens at
IsWritten false bytes line_tokens at = (words : List ℕ) × (bytes ≡ in_bytes words) × AreLeast words line_tokens at

-- whichever instruction of the processor has these tokens in its text at an address, what is at a place of an image
-- decodes to it
abbrev pub IsKept : Bool → List ℕ → ℕ → List Token → ℕ → Type 0
IsKept true image place line_tokens at =
    (bytes : List ℕ) → AreBytes bytes → is_db (sub.instruction_of bytes).op ≡ false
    → tokens (sub_texts.text_of (sub.instruction_of bytes) at) ≡ line_tokens → sub.instruction_of (bytes_from image place) ≡ sub.instruction_of bytes
IsKept false image place line_tokens at =
    (word : ℕ) (tail : List ℕ) → word < 65536 → IsInstruction (nested word) → AreWords (word ∷ tail)
    → tokens (main_texts.text_of (main.instruction_of (word ∷ tail)) at) ≡ line_tokens → main.instruction_of (words_from image place) ≡ main.instruction_of (word ∷ tail)

-- what is decoded at a line's place has at its address the line's text: the same tokens, with the value of each name;
-- it is the instruction that has this text; and of all bytes that have it, those that are chosen are there
pub record IsRoundTrip (image : List ℕ) (names : Names) (slot : Slot) : Type 0 where
  pub text : tokens (text_at slot.sub image slot.place slot.address) ≡ resolved names (tokens slot.text)
  pub kept : IsKept slot.sub image slot.place (resolved names (tokens slot.text)) slot.address
  pub bytes : List ℕ
  pub stands : StandsAt image slot.place bytes
  pub chosen : IsWritten slot.sub bytes (resolved names (tokens slot.text)) slot.address

-- so it is for each line that is an instruction
abbrev pub AllRoundTrip : List ℕ → Names → List Slot → Type 0
AllRoundTrip image names [] = Unit {0}
AllRoundTrip image names (slot ∷ more) = (is_instruction slot.body ≡ true → IsRoundTrip image names slot) × AllRoundTrip image names more

-- the lines that round one reads are those that are placed, and the image says them
pub record SaysLines (source image : List ℕ) (lines : List Placed) : Type 0 where
  pub round : Round
  pub read : round_one start 1 (lines_of source) ≡ Read round
  pub places : lines ≡ places_of round.slots
  pub round_trips : AllRoundTrip image round.names round.slots
