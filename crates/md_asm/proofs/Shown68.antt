-- The operands of what words decode to are shown: their registers are some that there are, and their numbers have their digits.
use Rattle.std.proofs.Common.{ℕ, ◌+◌, ◌<◌, List, arith}
use Rattle.std.specs.Prelude.{slice_index}
use Rattle.md_word.specs.declared.size.Size.{Size}
use Rattle.md_word.specs.declared.size.Size.TheVariants.{Byte, Word, Long}
use Rattle.m68k_decode.specs.Fields.{size_of, paired, low_mode, high_mode, number_at, quick}
use Rattle.m68k_decode.specs.Instructions.{made}
use Rattle.md_word.specs.Modes.{IsMode}
use Rattle.md_word.specs.declared.mode.Mode.{Mode}
use Rattle.md_disasm.specs.Rows68.{row_of}
use Rattle.asm_m68k.proofs.Operands.{IsWritten}
use Rattle.asm_m68k.proofs.Sources.{IsShown}
use Rattle.m68k_decode.specs.Rows as rows
use Rattle.m68k_decode.specs.Rows.{Row}
use Rattle.asm_m68k.specs.Table.{AreWords, IsEntered}
use Rattle.asm_m68k.proofs.Instructions.{IsRead, target_below}
use Rattle.asm_m68k.proofs.Decoded.{number_below, low_is_read, high_is_read, high_below, quick_in, low_below, byte_below, word_below, paired_is_read}

place : (size : Size) (mode : Mode) → IsRead size mode → IsMode mode × IsWritten mode
place size mode h = (h.registers, h.written)

pub low_place : (size : Size) (k : ℕ) (words : List ℕ) → AreWords words → IsMode (low_mode size k words) × IsWritten (low_mode size k words)
low_place size k words all = place size (low_mode size k words) (low_is_read size k words all)

pub high_place : (size : Size) (k : ℕ) (words : List ℕ) → AreWords words → IsMode (high_mode size k words) × IsWritten (high_mode size k words)
high_place size k words all = place size (high_mode size k words) (high_is_read size k words all)

paired_place : (words : List ℕ) (n : ℕ) → n < 8 → IsMode (paired words n) × IsWritten (paired words n)
paired_place words n h = place Word (paired words n) (paired_is_read Word words n h)

byte_long : (words : List ℕ) → number_at Byte 1 words < 4294967296
byte_long words = let h = byte_below words in omega (arith, h)

word_long : (words : List ℕ) → AreWords words → number_at Word 1 words < 4294967296
word_long words all = let h = word_below words all in omega (arith, h)

quick_low : (words : List ℕ) → quick words < 16
quick_low words = let h = (quick_in words).1 in omega (arith, h)

sixteen : (n : ℕ) → n < 8 → (n < 16) × (8 + n < 16)
sixteen n h = (omega arith, omega arith)

abbrev IsShownRow : Row → List ℕ → ℕ → Type 0
IsShownRow row words at = IsShown (row_of (made row words).op at).first × IsShown (row_of (made row words).op at).second

pub row_shown : (row : Row) (words : List ℕ) (at : ℕ) → IsEntered row (slice_index words 0) → AreWords words → IsShownRow row words at
unfolding made
row_shown (rows.Immediate own) words at is all = ((number_below (size_of words) 1 words all).written, low_place _ _ words all)
row_shown rows.CompareImmediate words at is all = ((number_below (size_of words) 1 words all).written, low_place _ _ words all)
row_shown (rows.ImmediateToCcr own) words at is all = (byte_long words, tt)
row_shown (rows.ImmediateToSr own) words at is all = (word_long words all, tt)
row_shown (rows.BitByRegister own) words at is all = (high_below words, low_place Byte 1 words all)
row_shown (rows.BitByNumber own) words at is all = (byte_long words, low_place Byte 2 words all)
row_shown rows.MovepToRegister words at is all = ((low_below words, word_below words all), high_below words)
row_shown rows.MovepToMemory words at is all = (high_below words, (low_below words, word_below words all))
row_shown (rows.Move size) words at is all = (low_place size 1 words all, high_place size _ words all)
row_shown (rows.Movea size) words at is all = (low_place size 1 words all, high_below words)
row_shown (rows.Unary own) words at is all = (low_place (size_of words) 1 words all, tt)
row_shown rows.MoveFromSr words at is all = (tt, low_place Word 1 words all)
row_shown rows.MoveToCcr words at is all = (low_place Word 1 words all, tt)
row_shown rows.MoveToSr words at is all = (low_place Word 1 words all, tt)
row_shown rows.Nbcd words at is all = (low_place Byte 1 words all, tt)
row_shown rows.Swap words at is all = (low_below words, tt)
row_shown rows.Ext words at is all = (low_below words, tt)
row_shown rows.Pea words at is all = (low_place Long 1 words all, tt)
row_shown rows.MovemToMemory words at is all = (word_below words all, low_place _ 2 words all)
row_shown rows.MovemToRegisters words at is all = (low_place _ 2 words all, word_below words all)
row_shown rows.Tst words at is all = (low_place (size_of words) 1 words all, tt)
row_shown rows.Tas words at is all = (low_place Byte 1 words all, tt)
row_shown rows.Illegal words at is all = absurd is
row_shown rows.Trap words at is all = (omega arith, tt)
row_shown rows.Link words at is all = (low_below words, word_long words all)
row_shown rows.Unlk words at is all = (low_below words, tt)
row_shown rows.MoveToUsp words at is all = (low_below words, tt)
row_shown rows.MoveFromUsp words at is all = (tt, low_below words)
row_shown rows.Reset words at is all = (tt, tt)
row_shown rows.Nop words at is all = (tt, tt)
row_shown rows.Rte words at is all = (tt, tt)
row_shown rows.Rts words at is all = (tt, tt)
row_shown rows.Trapv words at is all = (tt, tt)
row_shown rows.Rtr words at is all = (tt, tt)
row_shown rows.Stop words at is all = (word_long words all, tt)
row_shown rows.Jsr words at is all = (low_place Long 1 words all, tt)
row_shown rows.Jmp words at is all = (low_place Long 1 words all, tt)
row_shown rows.Lea words at is all = (low_place Long 1 words all, high_below words)
row_shown rows.Chk words at is all = (low_place Word 1 words all, high_below words)
row_shown (rows.Quick own) words at is all = (quick_low words, low_place (size_of words) 1 words all)
row_shown rows.Scc words at is all = (low_place Byte 1 words all, tt)
row_shown rows.Dbcc words at is all = (low_below words, target_below at _)
row_shown rows.Bra words at is all = (target_below at _, tt)
row_shown rows.Bsr words at is all = (target_below at _, tt)
row_shown rows.Bcc words at is all = (target_below at _, tt)
row_shown rows.Moveq words at is all = (omega arith, high_below words)
row_shown rows.Divu words at is all = (low_place Word 1 words all, high_below words)
row_shown rows.Divs words at is all = (low_place Word 1 words all, high_below words)
row_shown rows.Mulu words at is all = (low_place Word 1 words all, high_below words)
row_shown rows.Muls words at is all = (low_place Word 1 words all, high_below words)
row_shown (rows.Decimal own) words at is all = (paired_place words _ (low_below words), paired_place words _ (high_below words))
row_shown (rows.Extended own) words at is all = (paired_place words _ (low_below words), paired_place words _ (high_below words))
row_shown (rows.ToRegister own) words at is all = (low_place _ 1 words all, high_below words)
row_shown (rows.ToMemory own) words at is all = (high_below words, low_place _ 1 words all)
row_shown (rows.ToAddress own) words at is all = (low_place _ 1 words all, high_below words)
row_shown rows.Cmp words at is all = (low_place _ 1 words all, high_below words)
row_shown rows.Cmpa words at is all = (low_place _ 1 words all, high_below words)
row_shown rows.Eor words at is all = (high_below words, low_place _ 1 words all)
row_shown rows.Cmpm words at is all = ((low_below words, tt), (high_below words, tt))
row_shown rows.ExgData words at is all = ((sixteen _ (high_below words)).0, (sixteen _ (low_below words)).0)
row_shown rows.ExgAddress words at is all = ((sixteen _ (high_below words)).1, (sixteen _ (low_below words)).1)
row_shown rows.ExgMixed words at is all = ((sixteen _ (high_below words)).0, (sixteen _ (low_below words)).1)
row_shown rows.ShiftByNumber words at is all = (quick_low words, low_below words)
row_shown rows.ShiftByRegister words at is all = (high_below words, low_below words)
row_shown rows.ShiftMemory words at is all = (low_place Word 1 words all, tt)
