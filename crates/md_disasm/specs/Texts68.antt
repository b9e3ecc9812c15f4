-- The text of an instruction of the 68000.
-- M68000 Programmer's Reference Manual, section 4: the name, the letter of the size, a space, and the
-- operands with a comma between them; this project's profile writes no space after the comma.
use Rattle.std.specs.Prelude.{ℕ, List, [], ◌++◌, codes, Option, Some, None}
use Rattle.md_word.specs.declared.size.Size.{Size}
use Rattle.m68k_decode.specs.declared.decoded.Decoded.{Decoded}
use Rattle.md_disasm.specs.Names68.{size_name}
use Rattle.md_disasm.specs.Operands68.{operand_text}
use Rattle.md_disasm.specs.Rows68.{Row68, row_of}
use Rattle.md_disasm.specs.declared.operand68.Operand68.{Operand68}
use Rattle.md_disasm.specs.declared.operand68.Operand68.TheVariants as operands

-- the letter of a size, where the row has one
abbrev pub size_text : Option Size → List ℕ
size_text None = []
size_text (Some size) = size_name size

-- an operand after its separator, where there is one
abbrev pub led : List ℕ → Operand68 → List ℕ
led mark operands.Nothing = []
led mark operand = mark ++ operand_text operand

-- the text of a row
abbrev pub row_text : Row68 → List ℕ
row_text row = row.name ++ size_text row.size ++ led (codes " ") row.first ++ led (codes ",") row.second

-- the text of an instruction at an address
abbrev pub text_of : Decoded → ℕ → List ℕ
text_of decoded at = row_text (row_of decoded.op at)
