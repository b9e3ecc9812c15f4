-- The instructions that this table has, and words of 16 bits.
use Rattle.std.specs.Prelude.{ℕ, ◌≡◌, ◌<◌, true, List, Option, Some, None, slice_index}
use Rattle.md_word.specs.declared.task.Task.{Task}
use Rattle.md_word.specs.declared.task.Task.TheVariants as tasks
use Rattle.m68k_decode.specs.Addressing.{control_or_postincrement, low_mode_number, memory_alterable}
use Rattle.m68k_decode.specs.Rows as rows
use Rattle.m68k_decode.specs.Rows.{Row}

-- numbers of 16 bits
abbrev pub AreWords : List ℕ → Type 0
AreWords words = (i : ℕ) → slice_index words i < 65536

-- the operations that rows have
abbrev pub IsImmediate : Task → Type 0
IsImmediate tasks.Or = Unit {0}
IsImmediate tasks.And = Unit {0}
IsImmediate tasks.Sub = Unit {0}
IsImmediate tasks.Add = Unit {0}
IsImmediate tasks.Eor = Unit {0}
IsImmediate _ = ⊥

abbrev pub IsLogic : Task → Type 0
IsLogic tasks.Or = Unit {0}
IsLogic tasks.And = Unit {0}
IsLogic tasks.Eor = Unit {0}
IsLogic _ = ⊥

abbrev pub IsBit : Task → Type 0
IsBit tasks.Btst = Unit {0}
IsBit tasks.Bchg = Unit {0}
IsBit tasks.Bclr = Unit {0}
IsBit tasks.Bset = Unit {0}
IsBit _ = ⊥

abbrev pub IsUnary : Task → Type 0
IsUnary tasks.Negx = Unit {0}
IsUnary tasks.Clr = Unit {0}
IsUnary tasks.Neg = Unit {0}
IsUnary tasks.Not = Unit {0}
IsUnary _ = ⊥

abbrev pub IsQuick : Task → Type 0
IsQuick tasks.Add = Unit {0}
IsQuick tasks.Sub = Unit {0}
IsQuick _ = ⊥

abbrev pub IsDecimal : Task → Type 0
IsDecimal tasks.Abcd = Unit {0}
IsDecimal tasks.Sbcd = Unit {0}
IsDecimal _ = ⊥

abbrev pub IsExtended : Task → Type 0
IsExtended tasks.Addx = Unit {0}
IsExtended tasks.Subx = Unit {0}
IsExtended _ = ⊥

abbrev pub IsSum : Task → Type 0
IsSum tasks.Or = Unit {0}
IsSum tasks.Sub = Unit {0}
IsSum tasks.And = Unit {0}
IsSum tasks.Add = Unit {0}
IsSum _ = ⊥

abbrev pub IsShift : Task → Type 0
IsShift tasks.Asl = Unit {0}
IsShift tasks.Asr = Unit {0}
IsShift tasks.Lsl = Unit {0}
IsShift tasks.Lsr = Unit {0}
IsShift tasks.Roxl = Unit {0}
IsShift tasks.Roxr = Unit {0}
IsShift tasks.Rol = Unit {0}
IsShift tasks.Ror = Unit {0}
IsShift _ = ⊥

-- what holds of a word and its row; ILLEGAL is a directive
abbrev pub IsEntered : Row → ℕ → Type 0
IsEntered (rows.Immediate task) word = IsImmediate task
IsEntered (rows.ImmediateToCcr task) word = IsLogic task
IsEntered (rows.ImmediateToSr task) word = IsLogic task
IsEntered (rows.BitByRegister task) word = IsBit task
IsEntered (rows.BitByNumber task) word = IsBit task
IsEntered (rows.Unary task) word = IsUnary task
IsEntered (rows.Quick task) word = IsQuick task
IsEntered (rows.Decimal task) word = IsDecimal task
IsEntered (rows.Extended task) word = IsExtended task
IsEntered (rows.ToRegister task) word = IsSum task
IsEntered (rows.ToMemory task) word = IsSum task × (memory_alterable (low_mode_number word) ≡ true)
IsEntered (rows.ToAddress task) word = IsQuick task
IsEntered rows.MovemToRegisters word = control_or_postincrement (low_mode_number word) ≡ true
IsEntered rows.Illegal word = ⊥
IsEntered row word = Unit {0}

-- a word has a row
abbrev pub IsEnteredWord : ℕ → Option Row → Type 0
IsEnteredWord word None = ⊥
IsEnteredWord word (Some row) = IsEntered row word

-- a word has a row, and not that of ILLEGAL, whose text is a directive
abbrev pub IsInstruction : Option Row → Type 0
IsInstruction None = ⊥
IsInstruction (Some rows.Illegal) = ⊥
IsInstruction (Some row) = Unit {0}
