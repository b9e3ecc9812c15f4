-- The fields of an instruction's words.
-- M68000 Programmer's Reference Manual, sections 2.1, 2.2 and 3.2 (conditions, table 3-19).
use Rattle.std.specs.Prelude.{ℕ, Bool, List, ◌+◌, ◌*◌, ◌/◌, ◌%◌, ◌==◌, if◌then◌else◌, slice_index}
use Rattle.md_word.specs.Fields.{bit_of}
use Rattle.md_word.specs.declared.mode.Mode.{Mode}
use Rattle.md_word.specs.declared.mode.Mode.TheVariants.{Data, Address, Indirect, PostInc, PreDec, Displaced, Indexed, AbsShort, AbsLong, PcDisplaced, PcIndexed, Immediate}
use Rattle.md_word.specs.declared.size.Size.{Size}
use Rattle.md_word.specs.declared.size.Size.TheVariants.{Byte, Word, Long}
use Rattle.md_word.specs.declared.task.Task.{Task}
use Rattle.md_word.specs.declared.task.Task.TheVariants as tasks
use Rattle.m68k_decode.specs.declared.condition.Condition.{Condition}
use Rattle.m68k_decode.specs.declared.condition.Condition.TheVariants as conditions
use Rattle.m68k_decode.specs.declared.displacement.Displacement.{Displacement}
use Rattle.m68k_decode.specs.declared.displacement.Displacement.TheVariants as displacements

-- the first word
abbrev pub opcode : List ℕ → ℕ
opcode words = slice_index words 0

-- the register in bits 11 to 9, and the one in bits 2 to 0
unfoldable pub high_register : List ℕ → ℕ
high_register words = opcode words / 512 % 8

-- the register in bits 2 to 0
unfoldable pub low_register : List ℕ → ℕ
low_register words = opcode words % 8

-- the size in bits 7 and 6
unfoldable pub size_of : List ℕ → Size
size_of words = if opcode words / 64 % 4 == 0 then Byte else (if opcode words / 64 % 4 == 1 then Word else Long)

-- word or long, by one bit
unfoldable pub word_or_long : ℕ → List ℕ → Size
word_or_long bit words = if bit_of (opcode words) bit then Long else Word

-- a number of the size from word k on; of a byte the upper half is not looked at
unfoldable pub number_at : Size → ℕ → List ℕ → ℕ
number_at Byte k words = slice_index words k % 256
number_at Word k words = slice_index words k
number_at Long k words = slice_index words k * 0x1_0000 + slice_index words (k + 1)

-- how many words a number of the size takes
abbrev pub words_of_number : Size → ℕ
words_of_number Byte = 1
words_of_number Word = 1
words_of_number Long = 2

-- a mode and its register, with the extension words from word k on. A brief extension word has the
-- index register in bits 15 to 12, its size in bit 11 and the displacement in bits 7 to 0
unfoldable pub mode_of : ℕ → ℕ → Size → ℕ → List ℕ → Mode
mode_of m r size k words =
    if m == 0 then Data r else
    if m == 1 then Address r else
    if m == 2 then Indirect r else
    if m == 3 then PostInc r else
    if m == 4 then PreDec r else
    if m == 5 then Displaced r (slice_index words k) else
    if m == 6 then Indexed r (slice_index words k / 4096) (bit_of (slice_index words k) 2048) (slice_index words k % 256) else
    if r == 0 then AbsShort (slice_index words k) else
    if r == 1 then AbsLong (number_at Long k words) else
    if r == 2 then PcDisplaced (slice_index words k) else
    if r == 3 then PcIndexed (slice_index words k / 4096) (bit_of (slice_index words k) 2048) (slice_index words k % 256) else
    Immediate (number_at size k words)

-- how many extension words a mode has
abbrev pub words_of_mode : Size → Mode → ℕ
words_of_mode size (Data n) = 0
words_of_mode size (Address n) = 0
words_of_mode size (Indirect n) = 0
words_of_mode size (PostInc n) = 0
words_of_mode size (PreDec n) = 0
words_of_mode size (Displaced n by) = 1
words_of_mode size (Indexed n index long by) = 1
words_of_mode size (AbsShort at) = 1
words_of_mode size (AbsLong at) = 2
words_of_mode size (PcDisplaced by) = 1
words_of_mode size (PcIndexed index long by) = 1
words_of_mode size (Immediate value) = words_of_number size

-- the mode in the low six bits
unfoldable pub low_mode : Size → ℕ → List ℕ → Mode
low_mode size k words = mode_of (opcode words / 8 % 8) (opcode words % 8) size k words

-- the target of MOVE: its register precedes its mode
unfoldable pub high_mode : Size → ℕ → List ℕ → Mode
high_mode size k words = mode_of (opcode words / 64 % 8) (opcode words / 512 % 8) size k words

-- the operands of ABCD, SBCD, ADDX and SUBX: bit 3 distinguishes −(An) from Dn
unfoldable pub paired : List ℕ → ℕ → Mode
paired words n = if bit_of (opcode words) 8 then PreDec n else Data n

-- the number 1 to 8 in bits 11 to 9, where 0 stands for 8
unfoldable pub quick : List ℕ → ℕ
quick words = if high_register words == 0 then 8 else high_register words

-- the condition in bits 11 to 8
unfoldable pub condition_of : List ℕ → Condition
condition_of words =
    if opcode words / 256 % 16 == 0 then conditions.True else
    if opcode words / 256 % 16 == 1 then conditions.False else
    if opcode words / 256 % 16 == 2 then conditions.High else
    if opcode words / 256 % 16 == 3 then conditions.LowOrSame else
    if opcode words / 256 % 16 == 4 then conditions.CarryClear else
    if opcode words / 256 % 16 == 5 then conditions.CarrySet else
    if opcode words / 256 % 16 == 6 then conditions.NotEqual else
    if opcode words / 256 % 16 == 7 then conditions.Equal else
    if opcode words / 256 % 16 == 8 then conditions.OverflowClear else
    if opcode words / 256 % 16 == 9 then conditions.OverflowSet else
    if opcode words / 256 % 16 == 10 then conditions.Plus else
    if opcode words / 256 % 16 == 11 then conditions.Minus else
    if opcode words / 256 % 16 == 12 then conditions.GreaterOrEqual else
    if opcode words / 256 % 16 == 13 then conditions.LessThan else
    if opcode words / 256 % 16 == 14 then conditions.GreaterThan else
    conditions.LessOrEqual

-- the displacement of a branch: the low byte, or the second word where that is 0
unfoldable pub displacement_of : List ℕ → Displacement
displacement_of words =
    if opcode words % 256 == 0 then displacements.Word (slice_index words 1)
    else displacements.Byte (opcode words % 256)

-- how many extension words a branch has
abbrev pub words_of_displacement : Displacement → ℕ
words_of_displacement (displacements.Byte by) = 0
words_of_displacement (displacements.Word by) = 1

-- a shift by its kind (0 arithmetic, 1 logical, 2 rotate with extend, 3 rotate), to the left or not
unfoldable pub shift_of : ℕ → Bool → Task
shift_of kind left =
    if kind == 0 then (if left then tasks.Asl else tasks.Asr) else
    if kind == 1 then (if left then tasks.Lsl else tasks.Lsr) else
    if kind == 2 then (if left then tasks.Roxl else tasks.Roxr) else
    (if left then tasks.Rol else tasks.Ror)
