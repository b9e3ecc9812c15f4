-- What the words of each instruction decode to. The words of an immediate and of the list of MOVEM
-- come right after the first word, then the extension words of the source, then of the target.
-- M68000 Programmer's Reference Manual, section 4.
use Rattle.std.specs.Prelude.{ℕ, Option, Some, None, List, [], ◌∷◌, ◌+◌, ◌*◌, ◌/◌, ◌%◌, ◌==◌, if◌then◌else◌}
use Rattle.md_word.specs.Fields.{bit_of}
use Rattle.md_word.specs.declared.mode.Mode.{Mode}
use Rattle.md_word.specs.declared.size.Size.{Size}
use Rattle.md_word.specs.declared.size.Size.TheVariants.{Byte, Word, Long}
use Rattle.m68k_decode.specs.declared.decoded.Decoded.{Decoded}
use Rattle.m68k_decode.specs.declared.op.Op.{Op}
use Rattle.m68k_decode.specs.declared.op.Op.TheVariants as ops
use Rattle.m68k_decode.specs.Fields.{opcode, high_register, low_register, size_of, word_or_long, number_at, words_of_number, words_of_mode, low_mode, high_mode, paired, quick, condition_of, displacement_of, words_of_displacement, shift_of}
use Rattle.m68k_decode.specs.Lines.{rows_of}
use Rattle.m68k_decode.specs.Rows as rows
use Rattle.m68k_decode.specs.Rows.{Row}

-- an operation of so many words
abbrev pub of_words : ℕ → Op → Decoded
of_words count op = record { op = op; length = 2 * count }

-- an operation on the mode of the low six bits, whose extension words begin at word k
abbrev pub with_mode : Size → ℕ → List ℕ → (Mode → Op) → Decoded
with_mode size k words op =
    let mode = low_mode size k words in of_words (k + words_of_mode size mode) (op mode)

-- MOVE: the extension words of the target follow those of the source
abbrev pub with_modes : Size → List ℕ → (Mode → Mode → Op) → Decoded
with_modes size words op =
    let source = low_mode size 1 words in
    let target = high_mode size (1 + words_of_mode size source) words in
    of_words (1 + words_of_mode size source + words_of_mode size target) (op source target)

-- a branch, with the displacement of the first or the second word
abbrev pub with_displacement : List ℕ → Op → Decoded
with_displacement words op = of_words (1 + words_of_displacement (displacement_of words)) op

-- what the words of a row decode to
unfoldable pub made : Row → List ℕ → Decoded
made (rows.Immediate task) words =
    with_mode (size_of words) (1 + words_of_number (size_of words)) words (ops.Immediate task (size_of words) (number_at (size_of words) 1 words))
made rows.CompareImmediate words =
    with_mode (size_of words) (1 + words_of_number (size_of words)) words (ops.CompareImmediate (size_of words) (number_at (size_of words) 1 words))
made (rows.ImmediateToCcr task) words = of_words 2 (ops.ImmediateToCcr task (number_at Byte 1 words))
made (rows.ImmediateToSr task) words = of_words 2 (ops.ImmediateToSr task (number_at Word 1 words))
made (rows.BitByRegister task) words = with_mode Byte 1 words (ops.BitByRegister task (high_register words))
made (rows.BitByNumber task) words = with_mode Byte 2 words (ops.BitByNumber task (number_at Byte 1 words))
made rows.MovepToRegister words =
    of_words 2 (ops.MovepToRegister (word_or_long 64 words) (high_register words) (low_register words) (number_at Word 1 words))
made rows.MovepToMemory words =
    of_words 2 (ops.MovepToMemory (word_or_long 64 words) (high_register words) (low_register words) (number_at Word 1 words))
made (rows.Move size) words = with_modes size words (ops.Move size)
made (rows.Movea size) words = with_mode size 1 words (ops.Movea size (high_register words))
made (rows.Unary task) words = with_mode (size_of words) 1 words (ops.Unary task (size_of words))
made rows.MoveFromSr words = with_mode Word 1 words ops.MoveFromSr
made rows.MoveToCcr words = with_mode Word 1 words ops.MoveToCcr
made rows.MoveToSr words = with_mode Word 1 words ops.MoveToSr
made rows.Nbcd words = with_mode Byte 1 words ops.Nbcd
made rows.Swap words = of_words 1 (ops.Swap (low_register words))
made rows.Ext words = of_words 1 (ops.Ext (word_or_long 64 words) (low_register words))
made rows.Pea words = with_mode Long 1 words ops.Pea
made rows.MovemToMemory words =
    with_mode (word_or_long 64 words) 2 words (ops.MovemToMemory (word_or_long 64 words) (number_at Word 1 words))
made rows.MovemToRegisters words =
    with_mode (word_or_long 64 words) 2 words (ops.MovemToRegisters (word_or_long 64 words) (number_at Word 1 words))
made rows.Tst words = with_mode (size_of words) 1 words (ops.Tst (size_of words))
made rows.Tas words = with_mode Byte 1 words ops.Tas
made rows.Illegal words = of_words 1 (ops.Illegal (opcode words))
made rows.Trap words = of_words 1 (ops.Trap (opcode words % 16))
made rows.Link words = of_words 2 (ops.Link (low_register words) (number_at Word 1 words))
made rows.Unlk words = of_words 1 (ops.Unlk (low_register words))
made rows.MoveToUsp words = of_words 1 (ops.MoveToUsp (low_register words))
made rows.MoveFromUsp words = of_words 1 (ops.MoveFromUsp (low_register words))
made rows.Reset words = of_words 1 ops.Reset
made rows.Nop words = of_words 1 ops.Nop
made rows.Stop words = of_words 2 (ops.Stop (number_at Word 1 words))
made rows.Rte words = of_words 1 ops.Rte
made rows.Rts words = of_words 1 ops.Rts
made rows.Trapv words = of_words 1 ops.Trapv
made rows.Rtr words = of_words 1 ops.Rtr
made rows.Jsr words = with_mode Long 1 words ops.Jsr
made rows.Jmp words = with_mode Long 1 words ops.Jmp
made rows.Lea words = with_mode Long 1 words (ops.Lea (high_register words))
made rows.Chk words = with_mode Word 1 words (ops.Chk (high_register words))
made (rows.Quick task) words = with_mode (size_of words) 1 words (ops.Quick task (size_of words) (quick words))
made rows.Scc words = with_mode Byte 1 words (ops.Scc (condition_of words))
made rows.Dbcc words = of_words 2 (ops.Dbcc (condition_of words) (low_register words) (number_at Word 1 words))
made rows.Bra words = with_displacement words (ops.Bra (displacement_of words))
made rows.Bsr words = with_displacement words (ops.Bsr (displacement_of words))
made rows.Bcc words = with_displacement words (ops.Bcc (condition_of words) (displacement_of words))
made rows.Moveq words = of_words 1 (ops.Moveq (high_register words) (opcode words % 256))
made rows.Divu words = with_mode Word 1 words (ops.Divu (high_register words))
made rows.Divs words = with_mode Word 1 words (ops.Divs (high_register words))
made (rows.Decimal task) words =
    of_words 1 (ops.Decimal task (paired words (low_register words)) (paired words (high_register words)))
made (rows.Extended task) words =
    of_words 1 (ops.Extended task (size_of words) (paired words (low_register words)) (paired words (high_register words)))
made (rows.ToRegister task) words = with_mode (size_of words) 1 words (ops.ToRegister task (size_of words) (high_register words))
made (rows.ToMemory task) words = with_mode (size_of words) 1 words (ops.ToMemory task (size_of words) (high_register words))
made (rows.ToAddress task) words =
    with_mode (word_or_long 256 words) 1 words (ops.ToAddress task (word_or_long 256 words) (high_register words))
made rows.Cmp words = with_mode (size_of words) 1 words (ops.Cmp (size_of words) (high_register words))
made rows.Cmpa words = with_mode (word_or_long 256 words) 1 words (ops.Cmpa (word_or_long 256 words) (high_register words))
made rows.Eor words = with_mode (size_of words) 1 words (ops.Eor (size_of words) (high_register words))
made rows.Cmpm words = of_words 1 (ops.Cmpm (size_of words) (high_register words) (low_register words))
made rows.Mulu words = with_mode Word 1 words (ops.Mulu (high_register words))
made rows.Muls words = with_mode Word 1 words (ops.Muls (high_register words))
made rows.ExgData words = of_words 1 (ops.Exg (high_register words) (low_register words))
made rows.ExgAddress words = of_words 1 (ops.Exg (8 + high_register words) (8 + low_register words))
made rows.ExgMixed words = of_words 1 (ops.Exg (high_register words) (8 + low_register words))
made rows.ShiftByNumber words =
    of_words 1 (ops.ShiftByNumber (shift_of (opcode words / 8 % 4) (bit_of (opcode words) 256)) (size_of words) (quick words) (low_register words))
made rows.ShiftByRegister words =
    of_words 1 (ops.ShiftByRegister (shift_of (opcode words / 8 % 4) (bit_of (opcode words) 256)) (size_of words) (high_register words) (low_register words))
made rows.ShiftMemory words =
    with_mode Word 1 words (ops.ShiftMemory (shift_of (opcode words / 512 % 4) (bit_of (opcode words) 256)))

-- a first word that is no instruction, by its first digit
unfoldable pub unmatched : List ℕ → Decoded
unmatched words =
    if opcode words / 4096 == 10 then of_words 1 (ops.LineA (opcode words)) else
    if opcode words / 4096 == 15 then of_words 1 (ops.LineF (opcode words)) else
    of_words 1 (ops.Illegal (opcode words))

-- what words decode to whose first word matches these rows: there is one row or none
abbrev pub chosen : List Row → List ℕ → Decoded
chosen [] words = unmatched words
chosen (row ∷ more) words = made row words

-- the same of a row that is known to be the only one
abbrev pub picked : Option Row → List ℕ → Decoded
picked None words = unmatched words
picked (Some row) words = made row words

-- what five words decode to
unfoldable pub instruction_of : List ℕ → Decoded
instruction_of words = chosen (rows_of (opcode words)) words
