-- The operands of the 68000's assembler.
-- M68000 Programmer's Reference Manual, section 2.8, in lower case; numbers with a dollar sign and all
-- their digits, displacements as unsigned numbers and register lists without ranges are this
-- project's profile.
use Rattle.std.specs.Prelude.{ℕ, ◌-◌, ◌/◌, ◌%◌, ◌^◌, ◌==◌, Bool, nat_lt, if◌then◌else◌, List, [], ◌∷◌, ◌++◌, codes}
use Rattle.std.specs.List.{filter, join_by}
use Rattle.md_word.specs.declared.mode.Mode.{Mode}
use Rattle.md_word.specs.declared.mode.Mode.TheVariants as modes
use Rattle.md_word.specs.declared.size.Size.{Size}
use Rattle.md_word.specs.declared.size.Size.TheVariants.{Byte, Word, Long}
use Rattle.m68k_decode.specs.declared.condition.Condition.{Condition}
use Rattle.m68k_decode.specs.declared.condition.Condition.TheVariants as conditions
use Rattle.md_disasm.specs.Digits.{marked_digit, marked_byte, marked_word, marked_long}
use Rattle.md_disasm.specs.declared.operand68.Operand68.{Operand68}
use Rattle.md_disasm.specs.declared.operand68.Operand68.TheVariants as operands

-- a condition as it is written in Bcc, DBcc and Scc
abbrev pub condition_name : Condition → List ℕ
condition_name conditions.True = codes "t"
condition_name conditions.False = codes "f"
condition_name conditions.High = codes "hi"
condition_name conditions.LowOrSame = codes "ls"
condition_name conditions.CarryClear = codes "cc"
condition_name conditions.CarrySet = codes "cs"
condition_name conditions.NotEqual = codes "ne"
condition_name conditions.Equal = codes "eq"
condition_name conditions.OverflowClear = codes "vc"
condition_name conditions.OverflowSet = codes "vs"
condition_name conditions.Plus = codes "pl"
condition_name conditions.Minus = codes "mi"
condition_name conditions.GreaterOrEqual = codes "ge"
condition_name conditions.LessThan = codes "lt"
condition_name conditions.GreaterThan = codes "gt"
condition_name conditions.LessOrEqual = codes "le"

-- a register of sixteen: D0 to D7, A0 to A7
unfoldable pub register_name : ℕ → List ℕ
register_name n = marked_digit (if nat_lt n 8 then codes "d" else codes "a") (n % 8) []

-- an index register, and whether 16 or 32 bits of it count
unfoldable pub index_text : ℕ → Bool → List ℕ
index_text index long = register_name index ++ (if long then codes ".l)" else codes ".w)")

-- a number in the instruction, by its size
abbrev pub number_text : Size → ℕ → List ℕ
number_text Byte n = marked_byte (codes "#$") (n % 0x100) []
number_text Word n = marked_word (codes "#$") (n % 0x1_0000) []
number_text Long n = marked_long (codes "#$") n []

-- an addressing mode; the size is that of a number
abbrev pub mode_text : Size → Mode → List ℕ
mode_text size (modes.Data n) = marked_digit (codes "d") n []
mode_text size (modes.Address n) = marked_digit (codes "a") n []
mode_text size (modes.Indirect n) = marked_digit (codes "(a") n (codes ")")
mode_text size (modes.PostInc n) = marked_digit (codes "(a") n (codes ")+")
mode_text size (modes.PreDec n) = marked_digit (codes "-(a") n (codes ")")
mode_text size (modes.Displaced n displacement) = marked_word (codes "$") displacement (codes "(a") ++ marked_digit [] n (codes ")")
mode_text size (modes.Indexed n index long displacement) =
    marked_byte (codes "$") displacement (codes "(a") ++ marked_digit [] n (codes ",") ++ index_text index long
mode_text size (modes.AbsShort address) = marked_word (codes "$") address (codes ".w")
mode_text size (modes.AbsLong address) = marked_long (codes "$") address (codes ".l")
mode_text size (modes.PcDisplaced displacement) = marked_word (codes "$") displacement (codes "(pc)")
mode_text size (modes.PcIndexed index long displacement) = marked_byte (codes "$") displacement (codes "(pc,") ++ index_text index long
mode_text size (modes.Immediate n) = number_text size n

-- the bit of a list that means a register; −(An) reverses the list
abbrev pub bit_for : Bool → ℕ → ℕ
bit_for turned n = if turned then 15 - n else n

-- a register of sixteen is in a list
unfoldable pub is_listed : Bool → ℕ → ℕ → Bool
is_listed turned list n = list / 2 ^ bit_for turned n % 2 == 1

-- the registers of sixteen, from D0 to A7
abbrev pub registers : List ℕ
registers = 0 ∷ 1 ∷ 2 ∷ 3 ∷ 4 ∷ 5 ∷ 6 ∷ 7 ∷ 8 ∷ 9 ∷ 10 ∷ 11 ∷ 12 ∷ 13 ∷ 14 ∷ 15 ∷ []

-- the names of the registers in a list, with a slash between each two
unfoldable pub list_text : Bool → ℕ → List ℕ
list_text turned list =
    if list == 0 then codes "none" else join_by register_name (codes "/") (filter (is_listed turned list) registers)

-- an operand; there may be none
abbrev pub operand_text : Operand68 → List ℕ
operand_text operands.Nothing = []
operand_text (operands.Place size mode) = mode_text size mode
operand_text (operands.Data n) = marked_digit (codes "d") n []
operand_text (operands.Address n) = marked_digit (codes "a") n []
operand_text (operands.Either n) = register_name n
operand_text operands.Sr = codes "sr"
operand_text operands.Ccr = codes "ccr"
operand_text operands.Usp = codes "usp"
operand_text (operands.Digit n) = marked_digit (codes "#$") n []
operand_text (operands.Number size n) = number_text size n
operand_text (operands.Target address) = marked_long (codes "$") address []
operand_text (operands.Opcode word) = marked_word (codes "$") word []
operand_text (operands.Registers turned list) = list_text turned list
