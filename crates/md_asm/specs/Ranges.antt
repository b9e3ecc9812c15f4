-- Which numbers are allowed at a place of an instruction's text: a table by operand.
-- M68000 Programmer's Reference Manual, sections 2.2 and 4 (ADDQ, SUBQ, TRAP, shifts); Zilog UM0080, "Z80 Instruction
-- Description" (RST); displacements as unsigned numbers are this project's profile.
use Rattle.std.specs.Prelude.{◌≡◌, ℕ, ◌%◌, ◌==◌, Bool, true, false, ◌&&◌, nat_le, nat_lt, if◌then◌else◌, List, ◌∷◌, length}
use Rattle.md_word.specs.Width.{modulus_of}
use Rattle.md_word.specs.declared.mode.Mode.{Mode}
use Rattle.md_word.specs.declared.mode.Mode.TheVariants as modes
use Rattle.md_word.specs.declared.size.Size.{Size}
use Rattle.m68k_decode.specs.Instructions as main
use Rattle.m68k_decode.specs.declared.op.Op.{Op}
use Rattle.m68k_decode.specs.declared.op.Op.TheVariants as ops
use Rattle.z80_decode.specs.Instructions as sub
use Rattle.z80_decode.specs.declared.op80.Op80.{Op80}
use Rattle.z80_decode.specs.declared.op80.Op80.TheVariants as sub_ops
use Rattle.z80_decode.specs.declared.place8.Place8.{Place8}
use Rattle.z80_decode.specs.declared.place8.Place8.TheVariants as places
use Rattle.md_disasm.specs.Rows68 as main_rows
use Rattle.md_disasm.specs.Rows68.{Row68}
use Rattle.md_disasm.specs.Rows80 as sub_rows
use Rattle.md_disasm.specs.Rows80.{Row80}
use Rattle.md_disasm.specs.Texts68 as main_texts
use Rattle.md_disasm.specs.Texts80 as sub_texts
use Rattle.md_disasm.specs.declared.operand68.Operand68.{Operand68}
use Rattle.md_disasm.specs.declared.operand68.Operand68.TheVariants as operands
use Rattle.md_disasm.specs.declared.operand80.Operand80.{Operand80}
use Rattle.md_disasm.specs.declared.operand80.Operand80.TheVariants as sub_operands
use Rattle.md_asm_text.specs.Tokens.{Number, Token, tokens}
use Rattle.md_asm.specs.Forms.{IsMainForm, IsSubForm, StandsIn}

-- ---- the 68000

-- below what the number of an addressing mode is: a displacement of 16 bits, or of 8 beside an index; an address of 16 bits
-- or of 32; an immediate number of the operation's size
abbrev pub mode_limit : Size → Mode → ℕ
mode_limit size (modes.Displaced n by) = 0x1_0000
mode_limit size (modes.Indexed n index long by) = 0x100
mode_limit size (modes.AbsShort at) = 0x1_0000
mode_limit size (modes.AbsLong at) = 0x1_0000_0000
mode_limit size (modes.PcDisplaced by) = 0x1_0000
mode_limit size (modes.PcIndexed index long by) = 0x100
mode_limit size (modes.Immediate n) = modulus_of size
mode_limit size mode = 0

-- a number of one digit: the vector of TRAP is 0 to 15, the number of ADDQ, SUBQ and a shift 1 to 8
abbrev pub digit_allows : Op → ℕ → Bool
digit_allows (ops.Trap vector) n = nat_lt n 16
digit_allows op n = nat_le 1 n && nat_le n 8

-- the numbers that are allowed in an operand of an instruction; a branch goes to any address
abbrev pub main_allows : Op → Operand68 → ℕ → Bool
main_allows op (operands.Place size mode) n = nat_lt n (mode_limit size mode)
main_allows op (operands.Digit m) n = digit_allows op n
main_allows op (operands.Number size m) n = nat_lt n (modulus_of size)
main_allows op (operands.Target address) n = nat_lt n 0x1_0000_0000
main_allows op operand n = false

-- the operand in which a place of a row's text lies: the first, or the second after it
abbrev pub main_operand : Row68 → ℕ → Operand68
main_operand row place = if nat_lt place (length (tokens (main_texts.row_text (record row { second = operands.Nothing })))) then row.first else row.second

-- ---- the Z80

-- below what the number of an operand of 8 bits is: a displacement or a number of 8 bits, an address of 16
abbrev pub place_limit : Place8 → ℕ
place_limit (places.AtIx by) = 0x100
place_limit (places.AtIy by) = 0x100
place_limit (places.At address) = 0x1_0000
place_limit (places.Number n) = 0x100
place_limit place = 0

-- a byte; of RST a multiple of 8 up to 38h
abbrev pub byte_allows : Op80 → ℕ → Bool
byte_allows (sub_ops.Restart address) n = nat_le n 0x38 && n % 8 == 0
byte_allows op n = nat_lt n 0x100

-- the numbers that are allowed in an operand of an instruction; a relative jump goes to any address
abbrev pub sub_allows : Op80 → Operand80 → ℕ → Bool
sub_allows op (sub_operands.Place place) n = nat_lt n (place_limit place)
sub_allows op (sub_operands.Byte m) n = byte_allows op n
sub_allows op (sub_operands.Port m) n = nat_lt n 0x100
sub_allows op (sub_operands.Word m) n = nat_lt n 0x1_0000
sub_allows op (sub_operands.AtWord address) n = nat_lt n 0x1_0000
sub_allows op operand n = false

-- the operand in which a place of a row's text lies: the first, or the second after it
abbrev pub sub_operand : Row80 → ℕ → Operand80
sub_operand row place = if nat_lt place (length (tokens (sub_texts.row_text (record row { second = sub_operands.Nothing })))) then row.first else row.second

-- ---- a line's number

-- an instruction of the 68000 of this form has some number at a place of its text, and there this one is allowed too
pub record IsMainRange (line_tokens : List Token) (place n word : ℕ) (tail : List ℕ) (at : ℕ) : Type 0 where
  pub form : IsMainForm line_tokens word tail at
  pub own : ℕ
  pub stands : StandsIn (tokens (main_texts.text_of (main.instruction_of (word ∷ tail)) at)) place (Number own)
  pub allowed : main_allows (main.instruction_of (word ∷ tail)).op (main_operand (main_rows.row_of (main.instruction_of (word ∷ tail)).op at) place) n ≡ true

-- one of the Z80 has
pub record IsSubRange (line_tokens : List Token) (place n : ℕ) (bytes : List ℕ) (at : ℕ) : Type 0 where
  pub form : IsSubForm line_tokens bytes at
  pub own : ℕ
  pub stands : StandsIn (tokens (sub_texts.text_of (sub.instruction_of bytes) at)) place (Number own)
  pub allowed : sub_allows (sub.instruction_of bytes).op (sub_operand (sub_rows.row_of (sub.instruction_of bytes).op at) place) n ≡ true

-- a number is in the range of its place in a line of the processor
abbrev pub IsInRange : Bool → List Token → ℕ → ℕ → Type 0
IsInRange true line_tokens place n = (bytes : List ℕ) × (at : ℕ) × IsSubRange line_tokens place n bytes at
IsInRange false line_tokens place n = (word : ℕ) × (tail : List ℕ) × (at : ℕ) × IsMainRange line_tokens place n word tail at
