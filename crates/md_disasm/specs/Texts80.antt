-- The text of an instruction of the Z80.
-- Zilog UM0080, "Z80 Instruction Description": the name, a space, and the operands with a comma
-- between them; this project's profile writes no space after the comma.
use Rattle.std.specs.Prelude.{ℕ, List, [], ◌++◌, codes}
use Rattle.z80_decode.specs.declared.decoded80.Decoded80.{Decoded80}
use Rattle.md_disasm.specs.Operands80.{operand_text}
use Rattle.md_disasm.specs.Rows80.{Row80, row_of}
use Rattle.md_disasm.specs.declared.operand80.Operand80.{Operand80}
use Rattle.md_disasm.specs.declared.operand80.Operand80.TheVariants as operands

-- an operand after its separator, where there is one
abbrev pub led : List ℕ → Operand80 → List ℕ
led mark operands.Nothing = []
led mark operand = mark ++ operand_text operand

-- the text of a row
abbrev pub row_text : Row80 → List ℕ
row_text row = row.name ++ led (codes " ") row.first ++ led (codes ",") row.second

-- the text of an instruction at an address
abbrev pub text_of : Decoded80 → ℕ → List ℕ
text_of decoded at = row_text (row_of decoded.op at)
