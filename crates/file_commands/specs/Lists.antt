-- The list of an image's instructions: each with its place and its text.
use Rattle.std.specs.Prelude.{ℕ, List, [], ◌∷◌, ◌++◌, codes}
use Rattle.md_disasm.specs.Digits.{eight_digits}
use Rattle.md_asm.specs.declared.placed.Placed.{Placed}
use Rattle.asm_laws.specs.Places.{text_at}

-- a line: the instruction's place as eight hexadecimal digits, a space, and its text
abbrev pub line_of : List ℕ → Placed → List ℕ
line_of image placed = eight_digits placed.place ++ codes " " ++ text_at placed.z80 image placed.place placed.address ++ codes "\n"

-- a line for each instruction, in their order
unfoldable pub list_of : List ℕ → List Placed → List ℕ
list_of image [] = []
list_of image (placed ∷ more) = line_of image placed ++ list_of image more
