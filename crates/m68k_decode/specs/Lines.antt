-- The instructions of the MC68000 by the first digit of their first word: a pattern, the addressing
-- modes that the instruction allows there, and the instruction.
-- M68000 Programmer's Reference Manual, section 4, and section 8, table 8-2 (operation code map).
use Rattle.std.specs.Prelude.{ℕ, Bool, not, List, [], ◌∷◌, ◌/◌, ◌%◌, ◌==◌, ◌&&◌, nat_le, if◌then◌else◌, map, filter, codes, bit_and}
use Rattle.md_word.specs.Patterns.{all, bits_of, mask_of}
use Rattle.md_word.specs.declared.task.Task.TheVariants as tasks
use Rattle.md_word.specs.declared.size.Size.TheVariants.{Byte, Word, Long}
use Rattle.m68k_decode.specs.Rows.{Row, Immediate, CompareImmediate, ImmediateToCcr, ImmediateToSr, BitByRegister, BitByNumber, MovepToRegister, MovepToMemory, Move, Movea, Unary, MoveFromSr, MoveToCcr, MoveToSr, Nbcd, Swap, Ext, Pea, MovemToMemory, MovemToRegisters, Tst, Tas, Illegal, Trap, Link, Unlk, MoveToUsp, MoveFromUsp, Reset, Nop, Stop, Rte, Rts, Trapv, Rtr, Jsr, Jmp, Lea, Chk, Quick, Scc, Dbcc, Bra, Bsr, Bcc, Moveq, Divu, Divs, Decimal, Extended, ToRegister, ToMemory, ToAddress, Cmp, Cmpa, Eor, Cmpm, Mulu, Muls, ExgData, ExgAddress, ExgMixed, ShiftByNumber, ShiftByRegister, ShiftMemory}
use Rattle.m68k_decode.specs.Addressing.{mode_number, low_mode_number, any, data_mode, control, alterable, data_alterable, memory_alterable, data_but_immediate, control_alterable_or_predecrement, control_or_postincrement}

-- a line of the table: the bits that the mask selects are fixed, and the rest of the word is
-- allowed
pub record TableLine : Type 0 where
  pub mask : ℕ
  pub bits : ℕ
  pub allowed : ℕ → Bool
  pub row : Row

-- the line of a pattern, what it allows, and its row
abbrev pub line : List ℕ → (ℕ → Bool) → Row → TableLine
line pattern allowed row = record { mask = mask_of pattern 0; bits = bits_of pattern 0; allowed = allowed; row = row }

-- a size in bits 7 and 6
abbrev pub sized : ℕ → Bool
sized w = not (w / 64 % 4 == 3)

-- a mode of this class in the low six bits
abbrev pub on : (ℕ → Bool) → ℕ → Bool
on class w = class (low_mode_number w)

-- a mode of this class and a size
abbrev pub sized_on : (ℕ → Bool) → ℕ → Bool
sized_on class w = sized w && class (low_mode_number w)

-- a byte of an address register, which there is not
abbrev pub byte_of_address : ℕ → Bool
byte_of_address w = w / 64 % 4 == 0 && low_mode_number w == 1

-- a mode of this class and a size, but no byte of an address register
abbrev pub words_on : (ℕ → Bool) → ℕ → Bool
words_on class w = sized_on class w && not (byte_of_address w)

-- MOVE: any source, but no byte of an address register; the target's register precedes its
-- mode
abbrev pub moved_to : (ℕ → Bool) → ℕ → Bool
moved_to class w = any (low_mode_number w) && class (mode_number (w / 64 % 8) (w / 512 % 8))

-- the same of a byte, whose source is no address register
abbrev pub byte_moved_to : (ℕ → Bool) → ℕ → Bool
byte_moved_to class w = moved_to class w && not (low_mode_number w == 1)

-- Bcc: the conditions T and F are BRA's and BSR's
abbrev pub conditional : ℕ → Bool
conditional w = nat_le 2 (w / 256 % 16)

-- ORI to CMPI, BTST to BSET, MOVEP
unfoldable pub lines_0 : List TableLine
lines_0 =
    line (codes "0000 0000 ss eeeeee") (sized_on data_alterable) (Immediate tasks.Or) ∷
    line (codes "0000 0010 ss eeeeee") (sized_on data_alterable) (Immediate tasks.And) ∷
    line (codes "0000 0100 ss eeeeee") (sized_on data_alterable) (Immediate tasks.Sub) ∷
    line (codes "0000 0110 ss eeeeee") (sized_on data_alterable) (Immediate tasks.Add) ∷
    line (codes "0000 1010 ss eeeeee") (sized_on data_alterable) (Immediate tasks.Eor) ∷
    line (codes "0000 1100 ss eeeeee") (sized_on data_alterable) CompareImmediate ∷
    line (codes "0000 0000 0011 1100") all (ImmediateToCcr tasks.Or) ∷
    line (codes "0000 0010 0011 1100") all (ImmediateToCcr tasks.And) ∷
    line (codes "0000 1010 0011 1100") all (ImmediateToCcr tasks.Eor) ∷
    line (codes "0000 0000 0111 1100") all (ImmediateToSr tasks.Or) ∷
    line (codes "0000 0010 0111 1100") all (ImmediateToSr tasks.And) ∷
    line (codes "0000 1010 0111 1100") all (ImmediateToSr tasks.Eor) ∷
    line (codes "0000 nnn1 00 eeeeee") (on data_mode) (BitByRegister tasks.Btst) ∷
    line (codes "0000 nnn1 01 eeeeee") (on data_alterable) (BitByRegister tasks.Bchg) ∷
    line (codes "0000 nnn1 10 eeeeee") (on data_alterable) (BitByRegister tasks.Bclr) ∷
    line (codes "0000 nnn1 11 eeeeee") (on data_alterable) (BitByRegister tasks.Bset) ∷
    line (codes "0000 1000 00 eeeeee") (on data_but_immediate) (BitByNumber tasks.Btst) ∷
    line (codes "0000 1000 01 eeeeee") (on data_alterable) (BitByNumber tasks.Bchg) ∷
    line (codes "0000 1000 10 eeeeee") (on data_alterable) (BitByNumber tasks.Bclr) ∷
    line (codes "0000 1000 11 eeeeee") (on data_alterable) (BitByNumber tasks.Bset) ∷
    line (codes "0000 nnn1 0s00 1rrr") all MovepToRegister ∷
    line (codes "0000 nnn1 1s00 1rrr") all MovepToMemory ∷
    []

-- MOVE.B
unfoldable pub lines_1 : List TableLine
lines_1 =
    line (codes "0001 nnnmmm eeeeee") (byte_moved_to data_alterable) (Move Byte) ∷
    []

-- MOVE.L and MOVEA.L
unfoldable pub lines_2 : List TableLine
lines_2 =
    line (codes "0010 nnnmmm eeeeee") (moved_to data_alterable) (Move Long) ∷
    line (codes "0010 nnn001 eeeeee") (on any) (Movea Long) ∷
    []

-- MOVE.W and MOVEA.W
unfoldable pub lines_3 : List TableLine
lines_3 =
    line (codes "0011 nnnmmm eeeeee") (moved_to data_alterable) (Move Word) ∷
    line (codes "0011 nnn001 eeeeee") (on any) (Movea Word) ∷
    []

-- operations on one operand, LEA, CHK, MOVEM and control
unfoldable pub lines_4 : List TableLine
lines_4 =
    line (codes "0100 0000 ss eeeeee") (sized_on data_alterable) (Unary tasks.Negx) ∷
    line (codes "0100 0010 ss eeeeee") (sized_on data_alterable) (Unary tasks.Clr) ∷
    line (codes "0100 0100 ss eeeeee") (sized_on data_alterable) (Unary tasks.Neg) ∷
    line (codes "0100 0110 ss eeeeee") (sized_on data_alterable) (Unary tasks.Not) ∷
    line (codes "0100 0000 11 eeeeee") (on data_alterable) MoveFromSr ∷
    line (codes "0100 0100 11 eeeeee") (on data_mode) MoveToCcr ∷
    line (codes "0100 0110 11 eeeeee") (on data_mode) MoveToSr ∷
    line (codes "0100 1000 00 eeeeee") (on data_alterable) Nbcd ∷
    line (codes "0100 1000 0100 0rrr") all Swap ∷
    line (codes "0100 1000 1s00 0rrr") all Ext ∷
    line (codes "0100 1000 01 eeeeee") (on control) Pea ∷
    line (codes "0100 1000 1s eeeeee") (on control_alterable_or_predecrement) MovemToMemory ∷
    line (codes "0100 1100 1s eeeeee") (on control_or_postincrement) MovemToRegisters ∷
    line (codes "0100 1010 ss eeeeee") (sized_on data_alterable) Tst ∷
    line (codes "0100 1010 11 eeeeee") (on data_alterable) Tas ∷
    line (codes "0100 1010 1111 1100") all Illegal ∷
    line (codes "0100 1110 0100 vvvv") all Trap ∷
    line (codes "0100 1110 0101 0rrr") all Link ∷
    line (codes "0100 1110 0101 1rrr") all Unlk ∷
    line (codes "0100 1110 0110 0rrr") all MoveToUsp ∷
    line (codes "0100 1110 0110 1rrr") all MoveFromUsp ∷
    line (codes "0100 1110 0111 0000") all Reset ∷
    line (codes "0100 1110 0111 0001") all Nop ∷
    line (codes "0100 1110 0111 0010") all Stop ∷
    line (codes "0100 1110 0111 0011") all Rte ∷
    line (codes "0100 1110 0111 0101") all Rts ∷
    line (codes "0100 1110 0111 0110") all Trapv ∷
    line (codes "0100 1110 0111 0111") all Rtr ∷
    line (codes "0100 1110 10 eeeeee") (on control) Jsr ∷
    line (codes "0100 1110 11 eeeeee") (on control) Jmp ∷
    line (codes "0100 nnn1 11 eeeeee") (on control) Lea ∷
    line (codes "0100 nnn1 10 eeeeee") (on data_mode) Chk ∷
    []

-- ADDQ, SUBQ, Scc, DBcc
unfoldable pub lines_5 : List TableLine
lines_5 =
    line (codes "0101 qqq0 ss eeeeee") (words_on alterable) (Quick tasks.Add) ∷
    line (codes "0101 qqq1 ss eeeeee") (words_on alterable) (Quick tasks.Sub) ∷
    line (codes "0101 cccc 11 eeeeee") (on data_alterable) Scc ∷
    line (codes "0101 cccc 1100 1rrr") all Dbcc ∷
    []

-- BRA, BSR, Bcc
unfoldable pub lines_6 : List TableLine
lines_6 =
    line (codes "0110 0000 dddddddd") all Bra ∷
    line (codes "0110 0001 dddddddd") all Bsr ∷
    line (codes "0110 cccc dddddddd") conditional Bcc ∷
    []

-- MOVEQ
unfoldable pub lines_7 : List TableLine
lines_7 =
    line (codes "0111 nnn0 dddddddd") all Moveq ∷
    []

-- OR, DIVU, DIVS, SBCD
unfoldable pub lines_8 : List TableLine
lines_8 =
    line (codes "1000 nnn0 11 eeeeee") (on data_mode) Divu ∷
    line (codes "1000 nnn1 11 eeeeee") (on data_mode) Divs ∷
    line (codes "1000 nnn1 0000 mrrr") all (Decimal tasks.Sbcd) ∷
    line (codes "1000 nnn0 ss eeeeee") (sized_on data_mode) (ToRegister tasks.Or) ∷
    line (codes "1000 nnn1 ss eeeeee") (sized_on memory_alterable) (ToMemory tasks.Or) ∷
    []

-- SUB, SUBA, SUBX
unfoldable pub lines_9 : List TableLine
lines_9 =
    line (codes "1001 nnn0 ss eeeeee") (words_on any) (ToRegister tasks.Sub) ∷
    line (codes "1001 nnn1 ss eeeeee") (sized_on memory_alterable) (ToMemory tasks.Sub) ∷
    line (codes "1001 nnns 11 eeeeee") (on any) (ToAddress tasks.Sub) ∷
    line (codes "1001 nnn1 ss00 mrrr") sized (Extended tasks.Subx) ∷
    []

-- CMP, CMPA, CMPM, EOR
unfoldable pub lines_b : List TableLine
lines_b =
    line (codes "1011 nnn0 ss eeeeee") (words_on any) Cmp ∷
    line (codes "1011 nnns 11 eeeeee") (on any) Cmpa ∷
    line (codes "1011 nnn1 ss eeeeee") (sized_on data_alterable) Eor ∷
    line (codes "1011 nnn1 ss00 1rrr") sized Cmpm ∷
    []

-- AND, MULU, MULS, ABCD, EXG
unfoldable pub lines_c : List TableLine
lines_c =
    line (codes "1100 nnn0 11 eeeeee") (on data_mode) Mulu ∷
    line (codes "1100 nnn1 11 eeeeee") (on data_mode) Muls ∷
    line (codes "1100 nnn1 0000 mrrr") all (Decimal tasks.Abcd) ∷
    line (codes "1100 nnn1 0100 0rrr") all ExgData ∷
    line (codes "1100 nnn1 0100 1rrr") all ExgAddress ∷
    line (codes "1100 nnn1 1000 1rrr") all ExgMixed ∷
    line (codes "1100 nnn0 ss eeeeee") (sized_on data_mode) (ToRegister tasks.And) ∷
    line (codes "1100 nnn1 ss eeeeee") (sized_on memory_alterable) (ToMemory tasks.And) ∷
    []

-- ADD, ADDA, ADDX
unfoldable pub lines_d : List TableLine
lines_d =
    line (codes "1101 nnn0 ss eeeeee") (words_on any) (ToRegister tasks.Add) ∷
    line (codes "1101 nnn1 ss eeeeee") (sized_on memory_alterable) (ToMemory tasks.Add) ∷
    line (codes "1101 nnns 11 eeeeee") (on any) (ToAddress tasks.Add) ∷
    line (codes "1101 nnn1 ss00 mrrr") sized (Extended tasks.Addx) ∷
    []

-- shifts and rotates
unfoldable pub lines_e : List TableLine
lines_e =
    line (codes "1110 nnnd ss0t trrr") sized ShiftByNumber ∷
    line (codes "1110 nnnd ss1t trrr") sized ShiftByRegister ∷
    line (codes "1110 0ttd 11 eeeeee") (on memory_alterable) ShiftMemory ∷
    []

-- the lines of a first digit; A and F have none
unfoldable pub lines_of : ℕ → List TableLine
lines_of digit =
    if digit == 0 then lines_0 else
    if digit == 1 then lines_1 else
    if digit == 2 then lines_2 else
    if digit == 3 then lines_3 else
    if digit == 4 then lines_4 else
    if digit == 5 then lines_5 else
    if digit == 6 then lines_6 else
    if digit == 7 then lines_7 else
    if digit == 8 then lines_8 else
    if digit == 9 then lines_9 else
    if digit == 11 then lines_b else
    if digit == 12 then lines_c else
    if digit == 13 then lines_d else
    if digit == 14 then lines_e else
    []

-- whether a word has a line's fixed bits, and the rest of it is allowed
unfoldable pub matches : ℕ → TableLine → Bool
matches w l = bit_and w l.mask == l.bits && l.allowed w

-- all instructions that a word matches
unfoldable pub matching : List TableLine → ℕ → List Row
matching lines w = map (λ l. l.row) (filter (matches w) lines)

-- all rows that a first word matches
unfoldable pub rows_of : ℕ → List Row
rows_of w = matching (lines_of (w / 4096)) w
