-- The operands of the Z80's assembler.
-- Zilog UM0080, "Z80 Instruction Description", in lower case; the halves of IX and IY, displacements
-- as unsigned bytes and numbers with a dollar sign are this project's profile.
use Rattle.std.specs.Prelude.{ℕ, ◌/◌, ◌%◌, List, [], ◌++◌, codes}
use Rattle.md_word.specs.declared.bit.Bit.{Bit}
use Rattle.md_word.specs.declared.bit.Bit.TheVariants.{Bit0, Bit1, Bit2, Bit3, Bit4, Bit5, Bit6, Bit7}
use Rattle.z80_decode.specs.declared.condition.Condition.{Condition}
use Rattle.z80_decode.specs.declared.condition.Condition.TheVariants.{NonZero, Zero, NonCarry, Carry, ParityOdd, ParityEven, Positive, Negative}
use Rattle.z80_decode.specs.declared.index.Index.{Index}
use Rattle.z80_decode.specs.declared.index.Index.TheVariants as indexes
use Rattle.z80_decode.specs.declared.interrupt_mode.InterruptMode.{InterruptMode}
use Rattle.z80_decode.specs.declared.interrupt_mode.InterruptMode.TheVariants.{Mode0, Mode1, Mode2}
use Rattle.z80_decode.specs.declared.pair.Pair.{Pair}
use Rattle.z80_decode.specs.declared.pair.Pair.TheVariants as pairs
use Rattle.z80_decode.specs.declared.place8.Place8.{Place8}
use Rattle.z80_decode.specs.declared.place8.Place8.TheVariants as places
use Rattle.z80_decode.specs.declared.special.Special.{Special}
use Rattle.z80_decode.specs.declared.special.Special.TheVariants.{Interrupt, Refresh}
use Rattle.md_disasm.specs.Digits.{marked_byte, marked_word}
use Rattle.md_disasm.specs.declared.operand80.Operand80.{Operand80}
use Rattle.md_disasm.specs.declared.operand80.Operand80.TheVariants as operands

-- the register that the prefix selects
abbrev pub register : Index → Pair
register indexes.Hl = pairs.Hl
register indexes.Ix = pairs.Ix
register indexes.Iy = pairs.Iy

-- a register of 16 bits
abbrev pub pair_name : Pair → List ℕ
pair_name pairs.Bc = codes "bc"
pair_name pairs.De = codes "de"
pair_name pairs.Hl = codes "hl"
pair_name pairs.Sp = codes "sp"
pair_name pairs.Af = codes "af"
pair_name pairs.Ix = codes "ix"
pair_name pairs.Iy = codes "iy"

-- the interrupt vector register or the refresh register
abbrev pub special_name : Special → List ℕ
special_name Interrupt = codes "i"
special_name Refresh = codes "r"

-- a condition cc
abbrev pub condition_name : Condition → List ℕ
condition_name NonZero = codes "nz"
condition_name Zero = codes "z"
condition_name NonCarry = codes "nc"
condition_name Carry = codes "c"
condition_name ParityOdd = codes "po"
condition_name ParityEven = codes "pe"
condition_name Positive = codes "p"
condition_name Negative = codes "m"

-- the number of a bit
abbrev pub bit_name : Bit → List ℕ
bit_name Bit0 = codes "0"
bit_name Bit1 = codes "1"
bit_name Bit2 = codes "2"
bit_name Bit3 = codes "3"
bit_name Bit4 = codes "4"
bit_name Bit5 = codes "5"
bit_name Bit6 = codes "6"
bit_name Bit7 = codes "7"

-- the number of an interrupt mode
abbrev pub mode_name : InterruptMode → List ℕ
mode_name Mode0 = codes "0"
mode_name Mode1 = codes "1"
mode_name Mode2 = codes "2"

-- three bytes
abbrev pub bytes_text : ℕ → ℕ → ℕ → List ℕ
bytes_text first second third =
    marked_byte (codes "$") first (codes ",") ++ marked_byte (codes "$") second (codes ",") ++ marked_byte (codes "$") third []

-- an operand of 8 bits
abbrev pub place_text : Place8 → List ℕ
place_text places.A = codes "a"
place_text places.B = codes "b"
place_text places.C = codes "c"
place_text places.D = codes "d"
place_text places.E = codes "e"
place_text places.H = codes "h"
place_text places.L = codes "l"
place_text places.Ixh = codes "ixh"
place_text places.Ixl = codes "ixl"
place_text places.Iyh = codes "iyh"
place_text places.Iyl = codes "iyl"
place_text places.AtBc = codes "(bc)"
place_text places.AtDe = codes "(de)"
place_text places.AtHl = codes "(hl)"
place_text (places.AtIx displacement) = marked_byte (codes "(ix+$") displacement (codes ")")
place_text (places.AtIy displacement) = marked_byte (codes "(iy+$") displacement (codes ")")
place_text (places.At address) = marked_word (codes "($") address (codes ")")
place_text (places.Number n) = marked_byte (codes "$") n []

-- an operand; there may be none
abbrev pub operand_text : Operand80 → List ℕ
operand_text operands.Nothing = []
operand_text (operands.Place place) = place_text place
operand_text (operands.Register pair) = pair_name pair
operand_text (operands.AtRegister pair) = codes "(" ++ pair_name pair ++ codes ")"
operand_text operands.OtherAf = codes "af'"
operand_text (operands.Special special) = special_name special
operand_text (operands.Condition condition) = condition_name condition
operand_text (operands.Bit bit) = bit_name bit
operand_text (operands.Mode mode) = mode_name mode
operand_text (operands.Byte n) = marked_byte (codes "$") n []
operand_text (operands.Port n) = marked_byte (codes "($") n (codes ")")
operand_text operands.PortC = codes "(c)"
operand_text (operands.Word n) = marked_word (codes "$") n []
operand_text (operands.AtWord address) = marked_word (codes "($") address (codes ")")
operand_text (operands.ByteAndWord byte word) = bytes_text byte (word % 256) (word / 256)
