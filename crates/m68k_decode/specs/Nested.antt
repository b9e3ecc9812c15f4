-- The row of a first word by cases on its fields, as the code reads them. That it is the row of the
-- table is proved, so nobody has to believe this file.
use Rattle.std.specs.Prelude.{ℕ, Bool, Option, Some, None, ◌/◌, ◌%◌, ◌==◌, ◌&&◌, ◌||◌, not, nat_lt, nat_le, if◌then◌else◌}
use Rattle.md_word.specs.declared.size.Size.{Size}
use Rattle.md_word.specs.declared.size.Size.TheVariants.{Byte, Word, Long}
use Rattle.md_word.specs.declared.task.Task.{Task}
use Rattle.md_word.specs.declared.task.Task.TheVariants as tasks
use Rattle.m68k_decode.specs.Addressing.{mode_number, low_mode_number, any, data_mode, control, alterable, data_alterable, memory_alterable, data_but_immediate, control_alterable_or_predecrement, control_or_postincrement}
use Rattle.m68k_decode.specs.Lines.{sized, byte_of_address}
use Rattle.m68k_decode.specs.Rows as rows
use Rattle.m68k_decode.specs.Rows.{Row}

-- a row where a condition holds
abbrev pub when : Bool → Row → Option Row
when holds row = if holds then Some row else None

-- a row where the mode in the low six bits is of a class
abbrev pub at : (ℕ → Bool) → ℕ → Row → Option Row
at class w row = when (class (low_mode_number w)) row

-- MOVEP, and BTST to BSET by a data register
unfoldable pub by_register : ℕ → Option Row
by_register w =
    if w / 8 % 8 == 1 then (if w / 128 % 2 == 0 then Some rows.MovepToRegister else Some rows.MovepToMemory) else
    if w / 64 % 4 == 0 then at data_mode w (rows.BitByRegister tasks.Btst) else
    if w / 64 % 4 == 1 then at data_alterable w (rows.BitByRegister tasks.Bchg) else
    if w / 64 % 4 == 2 then at data_alterable w (rows.BitByRegister tasks.Bclr) else
    at data_alterable w (rows.BitByRegister tasks.Bset)

-- BTST to BSET by a number
unfoldable pub by_number : ℕ → Option Row
by_number w =
    if w / 64 % 4 == 0 then at data_but_immediate w (rows.BitByNumber tasks.Btst) else
    if w / 64 % 4 == 1 then at data_alterable w (rows.BitByNumber tasks.Bchg) else
    if w / 64 % 4 == 2 then at data_alterable w (rows.BitByNumber tasks.Bclr) else
    at data_alterable w (rows.BitByNumber tasks.Bset)

-- to CCR, to SR, or neither, by the size
abbrev pub status : ℕ → Task → Option Row
status size task =
    if size == 0 then Some (rows.ImmediateToCcr task) else
    when (size == 1) (rows.ImmediateToSr task)

-- ORI, ANDI and EORI to CCR or SR
unfoldable pub to_status : ℕ → Option Row
to_status w =
    if w / 512 % 8 == 0 then status (w / 64 % 4) tasks.Or else
    if w / 512 % 8 == 1 then status (w / 64 % 4) tasks.And else
    if w / 512 % 8 == 5 then status (w / 64 % 4) tasks.Eor else
    None

-- ORI to EORI, and CMPI
unfoldable pub immediates : ℕ → Option Row
immediates w =
    if not (sized w) || not (data_alterable (low_mode_number w)) then None else
    if w / 512 % 8 == 0 then Some (rows.Immediate tasks.Or) else
    if w / 512 % 8 == 1 then Some (rows.Immediate tasks.And) else
    if w / 512 % 8 == 2 then Some (rows.Immediate tasks.Sub) else
    if w / 512 % 8 == 3 then Some (rows.Immediate tasks.Add) else
    if w / 512 % 8 == 5 then Some (rows.Immediate tasks.Eor) else
    when (w / 512 % 8 == 6) rows.CompareImmediate

-- the first digit 0
unfoldable pub group_0 : ℕ → Option Row
group_0 w =
    if w / 256 % 2 == 1 then by_register w else
    if w / 512 % 8 == 4 then by_number w else
    if w % 64 == 60 then to_status w else
    immediates w

-- the target of MOVE is data alterable
abbrev pub moves : ℕ → Bool
moves w = data_alterable (mode_number (w / 64 % 8) (w / 512 % 8))

-- the first digit 1: MOVE.B
unfoldable pub group_1 : ℕ → Option Row
group_1 w = when (data_mode (low_mode_number w) && moves w) (rows.Move Byte)

-- the first digit 2 or 3: MOVE and MOVEA of a size
unfoldable pub group_2_or_3 : Size → ℕ → Option Row
group_2_or_3 size w =
    if w / 64 % 8 == 1 then at any w (rows.Movea size) else
    when (any (low_mode_number w) && moves w) (rows.Move size)

-- CHK and LEA
unfoldable pub with_register : ℕ → Option Row
with_register w =
    if w / 64 % 4 == 2 then at data_mode w rows.Chk else
    if w / 64 % 4 == 3 then at control w rows.Lea else
    None

-- MOVE from SR, to CCR and to SR
unfoldable pub with_status : ℕ → Option Row
with_status w =
    if w / 512 % 4 == 0 then at data_alterable w rows.MoveFromSr else
    if w / 512 % 4 == 2 then at data_mode w rows.MoveToCcr else
    if w / 512 % 4 == 3 then at data_mode w rows.MoveToSr else
    None

-- NEGX, CLR, NEG and NOT
unfoldable pub unaries : ℕ → Option Row
unaries w =
    if not (data_alterable (low_mode_number w)) then None else
    if w / 512 % 4 == 0 then Some (rows.Unary tasks.Negx) else
    if w / 512 % 4 == 1 then Some (rows.Unary tasks.Clr) else
    if w / 512 % 4 == 2 then Some (rows.Unary tasks.Neg) else
    Some (rows.Unary tasks.Not)

-- ILLEGAL, TAS and TST
unfoldable pub tests : ℕ → Option Row
tests w =
    if w % 256 == 0xfc then Some rows.Illegal else
    if nat_le 0xc0 (w % 256) then at data_alterable w rows.Tas else
    at data_alterable w rows.Tst

-- the first two digits 48: NBCD, SWAP, PEA, EXT, and MOVEM to memory
unfoldable pub group_48 : ℕ → Option Row
group_48 w =
    if w / 64 % 4 == 0 then at data_alterable w rows.Nbcd else
    if w / 64 % 4 == 1 then (if w / 8 % 8 == 0 then Some rows.Swap else at control w rows.Pea) else
    if w / 8 % 8 == 0 then Some rows.Ext else
    at control_alterable_or_predecrement w rows.MovemToMemory

-- TRAP to RTR, by the low six bits
unfoldable pub controls : ℕ → Option Row
controls w =
    if nat_lt (w % 64) 16 then Some rows.Trap else
    if nat_lt (w % 64) 24 then Some rows.Link else
    if nat_lt (w % 64) 32 then Some rows.Unlk else
    if nat_lt (w % 64) 40 then Some rows.MoveToUsp else
    if nat_lt (w % 64) 48 then Some rows.MoveFromUsp else
    if w % 64 == 48 then Some rows.Reset else
    if w % 64 == 49 then Some rows.Nop else
    if w % 64 == 50 then Some rows.Stop else
    if w % 64 == 51 then Some rows.Rte else
    if w % 64 == 53 then Some rows.Rts else
    if w % 64 == 54 then Some rows.Trapv else
    when (w % 64 == 55) rows.Rtr

-- the first two digits 4E: TRAP to RTR, JSR and JMP
unfoldable pub group_4e : ℕ → Option Row
group_4e w =
    if w / 64 % 4 == 0 then None else
    if w / 64 % 4 == 1 then controls w else
    if w / 64 % 4 == 2 then at control w rows.Jsr else
    at control w rows.Jmp

-- the first digit 4
unfoldable pub group_4 : ℕ → Option Row
group_4 w =
    if w / 256 % 2 == 1 then with_register w else
    if nat_lt (w / 256 % 16) 8 then (if w / 64 % 4 == 3 then with_status w else unaries w) else
    if w / 256 % 16 == 8 then group_48 w else
    if w / 256 % 16 == 10 then tests w else
    if w / 256 % 16 == 12 then (if nat_lt (w / 64 % 4) 2 then None else at control_or_postincrement w rows.MovemToRegisters) else
    group_4e w

-- the first digit 5: DBcc, Scc, ADDQ and SUBQ
unfoldable pub group_5 : ℕ → Option Row
group_5 w =
    if w / 64 % 4 == 3 then (if w / 8 % 8 == 1 then Some rows.Dbcc else at data_alterable w rows.Scc) else
    if not (alterable (low_mode_number w)) || byte_of_address w then None else
    if w / 256 % 2 == 0 then Some (rows.Quick tasks.Add) else
    Some (rows.Quick tasks.Sub)

-- the first digit 6: BRA, BSR and Bcc
unfoldable pub group_6 : ℕ → Option Row
group_6 w =
    if w / 256 % 16 == 0 then Some rows.Bra else
    if w / 256 % 16 == 1 then Some rows.Bsr else
    Some rows.Bcc

-- the first digit 7: MOVEQ
unfoldable pub group_7 : ℕ → Option Row
group_7 w = when (w / 256 % 2 == 0) rows.Moveq

-- the first digit 8: DIVU, DIVS, SBCD and OR
unfoldable pub group_8 : ℕ → Option Row
group_8 w =
    if w / 64 % 4 == 3 then (if w / 256 % 2 == 0 then at data_mode w rows.Divu else at data_mode w rows.Divs) else
    if w / 256 % 2 == 0 then at data_mode w (rows.ToRegister tasks.Or) else
    if w / 64 % 4 == 0 && w / 16 % 4 == 0 then Some (rows.Decimal tasks.Sbcd) else
    at memory_alterable w (rows.ToMemory tasks.Or)

-- the first digits 9 and D: to a register, to memory, with X, and of an address register
unfoldable pub sums : Task → Task → ℕ → Option Row
sums task with_extend w =
    if w / 64 % 4 == 3 then at any w (rows.ToAddress task) else
    if w / 256 % 2 == 0 then when (any (low_mode_number w) && not (byte_of_address w)) (rows.ToRegister task) else
    if w / 16 % 4 == 0 then Some (rows.Extended with_extend) else
    at memory_alterable w (rows.ToMemory task)

-- the first digit B: CMPA, CMP, CMPM and EOR
unfoldable pub group_b : ℕ → Option Row
group_b w =
    if w / 64 % 4 == 3 then at any w rows.Cmpa else
    if w / 256 % 2 == 0 then when (any (low_mode_number w) && not (byte_of_address w)) rows.Cmp else
    if w / 8 % 8 == 1 then Some rows.Cmpm else
    at data_alterable w rows.Eor

-- ABCD, EXG, and AND to memory
unfoldable pub exchanges : ℕ → Option Row
exchanges w =
    if w / 64 % 4 == 0 && nat_lt (w / 8 % 8) 2 then Some (rows.Decimal tasks.Abcd) else
    if w / 64 % 4 == 1 && w / 8 % 8 == 0 then Some rows.ExgData else
    if w / 64 % 4 == 1 && w / 8 % 8 == 1 then Some rows.ExgAddress else
    if w / 64 % 4 == 2 && w / 8 % 8 == 1 then Some rows.ExgMixed else
    at memory_alterable w (rows.ToMemory tasks.And)

-- the first digit C: MULU, MULS, ABCD, EXG and AND
unfoldable pub group_c : ℕ → Option Row
group_c w =
    if w / 64 % 4 == 3 then (if w / 256 % 2 == 0 then at data_mode w rows.Mulu else at data_mode w rows.Muls) else
    if w / 256 % 2 == 0 then at data_mode w (rows.ToRegister tasks.And) else
    exchanges w

-- the first digit E: shifts of memory, by a number and by a register
unfoldable pub group_e : ℕ → Option Row
group_e w =
    if w / 64 % 4 == 3 then when (w / 2048 % 2 == 0 && memory_alterable (low_mode_number w)) rows.ShiftMemory else
    if w / 32 % 2 == 0 then Some rows.ShiftByNumber else
    Some rows.ShiftByRegister

-- the row of a first word, by its first digit
unfoldable pub nested : ℕ → Option Row
nested w =
    if w / 4096 == 0 then group_0 w else
    if w / 4096 == 1 then group_1 w else
    if w / 4096 == 2 then group_2_or_3 Long w else
    if w / 4096 == 3 then group_2_or_3 Word w else
    if w / 4096 == 4 then group_4 w else
    if w / 4096 == 5 then group_5 w else
    if w / 4096 == 6 then group_6 w else
    if w / 4096 == 7 then group_7 w else
    if w / 4096 == 8 then group_8 w else
    if w / 4096 == 9 then sums tasks.Sub tasks.Subx w else
    if w / 4096 == 11 then group_b w else
    if w / 4096 == 12 then group_c w else
    if w / 4096 == 13 then sums tasks.Add tasks.Addx w else
    if w / 4096 == 14 then group_e w else
    None
