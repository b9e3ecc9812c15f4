-- The texts of the instructions of an image.
use Rattle.std.specs.Prelude.{ℕ, ◌+◌, ◌*◌, ◌%◌, Bool, true, false, List, [], ◌∷◌, slice_index}
use Rattle.m68k_decode.specs.Instructions as main
use Rattle.z80_decode.specs.Instructions as sub
use Rattle.md_disasm.specs.Texts68 as main_texts
use Rattle.md_disasm.specs.Texts80 as sub_texts

-- the word of an image at a place; after its end it is 0
abbrev pub word_at : List ℕ → ℕ → ℕ
word_at image place = slice_index image place * 256 + slice_index image (place + 1)

-- the five words of an instruction of the 68000 at a place
abbrev pub words_from : List ℕ → ℕ → List ℕ
words_from image place =
    word_at image place ∷ word_at image (place + 2) ∷ word_at image (place + 4) ∷ word_at image (place + 6) ∷ word_at image (place + 8) ∷ []

-- the four bytes of an instruction of the Z80 at a place
abbrev pub bytes_from : List ℕ → ℕ → List ℕ
bytes_from image place =
    slice_index image place ∷ slice_index image (place + 1) ∷ slice_index image (place + 2) ∷ slice_index image (place + 3) ∷ []

-- the text of the instruction at a place of an image, at an address, which for the Z80 is below 10000h
abbrev pub text_at : Bool → List ℕ → ℕ → ℕ → List ℕ
text_at true image place at = sub_texts.text_of (sub.instruction_of (bytes_from image place)) (at % 65536)
text_at false image place at = main_texts.text_of (main.instruction_of (words_from image place)) at
