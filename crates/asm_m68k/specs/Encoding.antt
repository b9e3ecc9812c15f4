-- The words of an instruction: the first word from the fields of its row, then its extension words.
-- M68000 Programmer's Reference Manual, section 8, table 8-2, and section 2.1. Bits that the processor
-- does not look at are 0: the upper byte of a byte's word, and bits 10 to 8 of a brief extension word.
use Rattle.std.specs.Prelude.{ℕ, ◌+◌, ◌-◌, ◌*◌, ◌/◌, ◌%◌, Bool, nat_lt, if◌then◌else◌, List, [], ◌∷◌, ◌++◌}
use Rattle.md_word.specs.Coding.{flag_number}
use Rattle.md_word.specs.declared.mode.Mode.{Mode}
use Rattle.md_word.specs.declared.mode.Mode.TheVariants as modes
use Rattle.md_word.specs.declared.size.Size.{Size}
use Rattle.md_word.specs.declared.size.Size.TheVariants.{Byte, Word, Long}
use Rattle.md_word.specs.declared.task.Task.{Task}
use Rattle.md_word.specs.declared.task.Task.TheVariants as tasks
use Rattle.m68k_decode.specs.declared.condition.Condition.{Condition}
use Rattle.m68k_decode.specs.declared.condition.Condition.TheVariants as conditions
use Rattle.m68k_decode.specs.declared.displacement.Displacement.{Displacement}
use Rattle.m68k_decode.specs.declared.displacement.Displacement.TheVariants as displacements
use Rattle.m68k_decode.specs.declared.op.Op.{Op}
use Rattle.m68k_decode.specs.declared.op.Op.TheVariants as ops

-- a mode and its register, in six bits
abbrev pub mode_code : Mode → ℕ
mode_code (modes.Data n) = n
mode_code (modes.Address n) = 8 + n
mode_code (modes.Indirect n) = 16 + n
mode_code (modes.PostInc n) = 24 + n
mode_code (modes.PreDec n) = 32 + n
mode_code (modes.Displaced n by) = 40 + n
mode_code (modes.Indexed n index long by) = 48 + n
mode_code (modes.AbsShort at) = 56
mode_code (modes.AbsLong at) = 57
mode_code (modes.PcDisplaced by) = 58
mode_code (modes.PcIndexed index long by) = 59
mode_code (modes.Immediate value) = 60

-- the target of MOVE: its register comes before its mode
abbrev pub target_code : Mode → ℕ
target_code mode = mode_code mode % 8 * 8 + mode_code mode / 8

-- bits 3 to 0 of ABCD, SBCD, ADDX and SUBX: −(An) or Dn, and the register
abbrev pub pair_code : Mode → ℕ
pair_code mode = mode_code mode / 32 * 8 + mode_code mode % 8

-- the size in bits 7 and 6
abbrev pub size_code : Size → ℕ
size_code Byte = 0
size_code Word = 1
size_code Long = 2

-- the size of MOVE
abbrev pub move_size_code : Size → ℕ
move_size_code Byte = 1
move_size_code Word = 3
move_size_code Long = 2

-- word or long
abbrev pub long_code : Size → ℕ
long_code Byte = 0
long_code Word = 0
long_code Long = 1

-- a condition cc
abbrev pub condition_code : Condition → ℕ
condition_code conditions.True = 0
condition_code conditions.False = 1
condition_code conditions.High = 2
condition_code conditions.LowOrSame = 3
condition_code conditions.CarryClear = 4
condition_code conditions.CarrySet = 5
condition_code conditions.NotEqual = 6
condition_code conditions.Equal = 7
condition_code conditions.OverflowClear = 8
condition_code conditions.OverflowSet = 9
condition_code conditions.Plus = 10
condition_code conditions.Minus = 11
condition_code conditions.GreaterOrEqual = 12
condition_code conditions.LessThan = 13
condition_code conditions.GreaterThan = 14
condition_code conditions.LessOrEqual = 15

-- the bits that name an operation among those of its row
abbrev pub task_code : Task → ℕ
task_code tasks.And = 1
task_code tasks.Sub = 2
task_code tasks.Add = 3
task_code tasks.Eor = 5
task_code tasks.Bchg = 1
task_code tasks.Bclr = 2
task_code tasks.Bset = 3
task_code tasks.Clr = 1
task_code tasks.Neg = 2
task_code tasks.Not = 3
task_code tasks.Asr = 0
task_code tasks.Lsr = 1
task_code tasks.Roxr = 2
task_code tasks.Ror = 3
task_code tasks.Asl = 4
task_code tasks.Lsl = 5
task_code tasks.Roxl = 6
task_code tasks.Rol = 7
task_code _ = 0

-- the first digit of an operation between a register and a place
abbrev pub group_of : Task → ℕ
group_of tasks.Or = 0x8000
group_of tasks.Sbcd = 0x8000
group_of tasks.Sub = 0x9000
group_of tasks.Subx = 0x9000
group_of tasks.And = 0xc000
group_of tasks.Abcd = 0xc000
group_of _ = 0xd000

-- ADDQ or SUBQ, in bit 8
abbrev pub quick_code : Task → ℕ
quick_code tasks.Sub = 1
quick_code _ = 0

-- the kind of a shift, 0 to 3, and bit 1 for the left
abbrev pub kind_code : Task → ℕ
kind_code task = task_code task % 4

abbrev pub left_code : Task → ℕ
left_code task = task_code task / 4

-- the low byte of a branch
abbrev pub displacement_code : Displacement → ℕ
displacement_code (displacements.Byte by) = by
displacement_code (displacements.Word by) = 0

-- EXG of two data registers, of two address registers, or of one of each
abbrev pub exchange : ℕ → ℕ → ℕ
exchange x y = if nat_lt y 8 then 0xc140 + 512 * x + y else (if nat_lt x 8 then 0xc180 + 512 * x + y else 0xc140 + 512 * (x - 8) + y)

-- the first word
unfoldable pub first_word : Op → ℕ
first_word (ops.Immediate task size value mode) = 512 * task_code task + 64 * size_code size + mode_code mode
first_word (ops.CompareImmediate size value mode) = 0x0c00 + 64 * size_code size + mode_code mode
first_word (ops.ImmediateToCcr task value) = 0x003c + 512 * task_code task
first_word (ops.ImmediateToSr task value) = 0x007c + 512 * task_code task
first_word (ops.BitByRegister task n mode) = 0x0100 + 512 * n + 64 * task_code task + mode_code mode
first_word (ops.BitByNumber task value mode) = 0x0800 + 64 * task_code task + mode_code mode
first_word (ops.MovepToRegister size n r by) = 0x0108 + 512 * n + 64 * long_code size + r
first_word (ops.MovepToMemory size n r by) = 0x0188 + 512 * n + 64 * long_code size + r
first_word (ops.Move size source target) = 4096 * move_size_code size + 64 * target_code target + mode_code source
first_word (ops.Movea size n mode) = 0x0040 + 4096 * move_size_code size + 512 * n + mode_code mode
first_word (ops.Unary task size mode) = 0x4000 + 512 * task_code task + 64 * size_code size + mode_code mode
first_word (ops.MoveFromSr mode) = 0x40c0 + mode_code mode
first_word (ops.MoveToCcr mode) = 0x44c0 + mode_code mode
first_word (ops.MoveToSr mode) = 0x46c0 + mode_code mode
first_word (ops.Nbcd mode) = 0x4800 + mode_code mode
first_word (ops.Swap r) = 0x4840 + r
first_word (ops.Ext size r) = 0x4880 + 64 * long_code size + r
first_word (ops.Pea mode) = 0x4840 + mode_code mode
first_word (ops.MovemToMemory size list mode) = 0x4880 + 64 * long_code size + mode_code mode
first_word (ops.MovemToRegisters size list mode) = 0x4c80 + 64 * long_code size + mode_code mode
first_word (ops.Tst size mode) = 0x4a00 + 64 * size_code size + mode_code mode
first_word (ops.Tas mode) = 0x4ac0 + mode_code mode
first_word (ops.Trap number) = 0x4e40 + number
first_word (ops.Link r by) = 0x4e50 + r
first_word (ops.Unlk r) = 0x4e58 + r
first_word (ops.MoveToUsp r) = 0x4e60 + r
first_word (ops.MoveFromUsp r) = 0x4e68 + r
first_word ops.Reset = 0x4e70
first_word ops.Nop = 0x4e71
first_word (ops.Stop value) = 0x4e72
first_word ops.Rte = 0x4e73
first_word ops.Rts = 0x4e75
first_word ops.Trapv = 0x4e76
first_word ops.Rtr = 0x4e77
first_word (ops.Jsr mode) = 0x4e80 + mode_code mode
first_word (ops.Jmp mode) = 0x4ec0 + mode_code mode
first_word (ops.Lea n mode) = 0x41c0 + 512 * n + mode_code mode
first_word (ops.Chk n mode) = 0x4180 + 512 * n + mode_code mode
first_word (ops.Quick task size number mode) = 0x5000 + 512 * (number % 8) + 256 * quick_code task + 64 * size_code size + mode_code mode
first_word (ops.Scc condition mode) = 0x50c0 + 256 * condition_code condition + mode_code mode
first_word (ops.Dbcc condition r by) = 0x50c8 + 256 * condition_code condition + r
first_word (ops.Bra displacement) = 0x6000 + displacement_code displacement
first_word (ops.Bsr displacement) = 0x6100 + displacement_code displacement
first_word (ops.Bcc condition displacement) = 0x6000 + 256 * condition_code condition + displacement_code displacement
first_word (ops.Moveq n value) = 0x7000 + 512 * n + value
first_word (ops.Divu n mode) = 0x80c0 + 512 * n + mode_code mode
first_word (ops.Divs n mode) = 0x81c0 + 512 * n + mode_code mode
first_word (ops.Decimal task source target) = 0x0100 + group_of task + 512 * (mode_code target % 8) + pair_code source
first_word (ops.Extended task size source target) = 0x0100 + group_of task + 512 * (mode_code target % 8) + 64 * size_code size + pair_code source
first_word (ops.ToRegister task size n mode) = group_of task + 512 * n + 64 * size_code size + mode_code mode
first_word (ops.ToMemory task size n mode) = 0x0100 + group_of task + 512 * n + 64 * size_code size + mode_code mode
first_word (ops.ToAddress task size n mode) = 0x00c0 + group_of task + 512 * n + 256 * long_code size + mode_code mode
first_word (ops.Cmp size n mode) = 0xb000 + 512 * n + 64 * size_code size + mode_code mode
first_word (ops.Cmpa size n mode) = 0xb0c0 + 512 * n + 256 * long_code size + mode_code mode
first_word (ops.Eor size n mode) = 0xb100 + 512 * n + 64 * size_code size + mode_code mode
first_word (ops.Cmpm size n r) = 0xb108 + 512 * n + 64 * size_code size + r
first_word (ops.Mulu n mode) = 0xc0c0 + 512 * n + mode_code mode
first_word (ops.Muls n mode) = 0xc1c0 + 512 * n + mode_code mode
first_word (ops.Exg x y) = exchange x y
first_word (ops.ShiftByNumber task size number r) = 0xe000 + 512 * (number % 8) + 256 * left_code task + 64 * size_code size + 8 * kind_code task + r
first_word (ops.ShiftByRegister task size n r) = 0xe020 + 512 * n + 256 * left_code task + 64 * size_code size + 8 * kind_code task + r
first_word (ops.ShiftMemory task mode) = 0xe0c0 + 512 * kind_code task + 256 * left_code task + mode_code mode
first_word (ops.Illegal word) = word
first_word (ops.LineA word) = word
first_word (ops.LineF word) = word

-- the words of a number of a size
abbrev pub number_words : Size → ℕ → List ℕ
number_words Byte n = n ∷ []
number_words Word n = n ∷ []
number_words Long n = n / 65536 ∷ n % 65536 ∷ []

-- a brief extension word
abbrev pub brief : ℕ → Bool → ℕ → ℕ
brief index long by = 4096 * index + 2048 * flag_number long + by

-- the extension words of a mode; the size is that of a number
unfoldable pub mode_words : Size → Mode → List ℕ
mode_words size (modes.Data n) = []
mode_words size (modes.Address n) = []
mode_words size (modes.Indirect n) = []
mode_words size (modes.PostInc n) = []
mode_words size (modes.PreDec n) = []
mode_words size (modes.Displaced n by) = by ∷ []
mode_words size (modes.Indexed n index long by) = brief index long by ∷ []
mode_words size (modes.AbsShort at) = at ∷ []
mode_words size (modes.AbsLong at) = number_words Long at
mode_words size (modes.PcDisplaced by) = by ∷ []
mode_words size (modes.PcIndexed index long by) = brief index long by ∷ []
mode_words size (modes.Immediate value) = number_words size value

-- the extension word of a branch
abbrev pub displacement_words : Displacement → List ℕ
displacement_words (displacements.Byte by) = []
displacement_words (displacements.Word by) = by ∷ []

-- the words after the first: a number or a list, then the extension words of the source, of the target
unfoldable pub extension : Op → List ℕ
extension (ops.Immediate _ size value mode) = number_words size value ++ mode_words size mode
extension (ops.CompareImmediate size value mode) = number_words size value ++ mode_words size mode
extension (ops.ImmediateToCcr _ value) = value ∷ []
extension (ops.ImmediateToSr _ value) = value ∷ []
extension (ops.BitByRegister _ n mode) = mode_words Byte mode
extension (ops.BitByNumber _ value mode) = value ∷ mode_words Byte mode
extension (ops.MovepToRegister size n r by) = by ∷ []
extension (ops.MovepToMemory size n r by) = by ∷ []
extension (ops.Move size source target) = mode_words size source ++ mode_words size target
extension (ops.Movea size n mode) = mode_words size mode
extension (ops.Unary _ size mode) = mode_words size mode
extension (ops.MoveFromSr mode) = mode_words Word mode
extension (ops.MoveToCcr mode) = mode_words Word mode
extension (ops.MoveToSr mode) = mode_words Word mode
extension (ops.Nbcd mode) = mode_words Byte mode
extension (ops.Pea mode) = mode_words Long mode
extension (ops.MovemToMemory size list mode) = list ∷ mode_words size mode
extension (ops.MovemToRegisters size list mode) = list ∷ mode_words size mode
extension (ops.Tst size mode) = mode_words size mode
extension (ops.Tas mode) = mode_words Byte mode
extension (ops.Link r by) = by ∷ []
extension (ops.Stop value) = value ∷ []
extension (ops.Jsr mode) = mode_words Long mode
extension (ops.Jmp mode) = mode_words Long mode
extension (ops.Lea n mode) = mode_words Long mode
extension (ops.Chk n mode) = mode_words Word mode
extension (ops.Quick _ size number mode) = mode_words size mode
extension (ops.Scc condition mode) = mode_words Byte mode
extension (ops.Dbcc condition r by) = by ∷ []
extension (ops.Bra displacement) = displacement_words displacement
extension (ops.Bsr displacement) = displacement_words displacement
extension (ops.Bcc condition displacement) = displacement_words displacement
extension (ops.Divu n mode) = mode_words Word mode
extension (ops.Divs n mode) = mode_words Word mode
extension (ops.ToRegister _ size n mode) = mode_words size mode
extension (ops.ToMemory _ size n mode) = mode_words size mode
extension (ops.ToAddress _ size n mode) = mode_words size mode
extension (ops.Cmp size n mode) = mode_words size mode
extension (ops.Cmpa size n mode) = mode_words size mode
extension (ops.Eor size n mode) = mode_words size mode
extension (ops.Mulu n mode) = mode_words Word mode
extension (ops.Muls n mode) = mode_words Word mode
extension (ops.ShiftMemory _ mode) = mode_words Word mode
extension _ = []

-- the words of an instruction
abbrev pub encoded : Op → List ℕ
encoded op = first_word op ∷ extension op
