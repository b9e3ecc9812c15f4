-- The extension words of an instruction with 8 for numbers are words.
use Rattle.std.proofs.Common.{◌≡◌, ℕ, zero, suc, ◌+◌, ◌/◌, ◌%◌, ◌<◌, Bool, true, false, List, [], ◌∷◌, ◌++◌, arith}
use Rattle.md_word.specs.Width.{modulus_of}
use Rattle.md_word.specs.declared.mode.Mode.{Mode}
use Rattle.md_word.specs.declared.mode.Mode.TheVariants as modes
use Rattle.md_word.specs.declared.size.Size.{Size}
use Rattle.md_word.specs.declared.size.Size.TheVariants.{Byte, Word, Long}
use Rattle.m68k_decode.specs.Fields.{size_of, word_or_long, number_at, words_of_number, words_of_mode, low_mode, high_mode}
use Rattle.m68k_decode.specs.Instructions.{made}
use Rattle.m68k_decode.specs.Rows as rows
use Rattle.m68k_decode.specs.Rows.{Row}
use Rattle.asm_m68k.specs.Encoding.{brief, extension, mode_words, number_words}
use Rattle.asm_m68k.specs.Table.{AreWords}
use Rattle.asm_m68k.proofs.Instructions.{IsRead}
use Rattle.asm_m68k.proofs.Decoded.{high_is_read, low_is_read, number_below}
use Rattle.md_asm.proofs.Kept68.{is_branch, op_kept}
use Rattle.md_asm.proofs.Rows68.{mode_filled, mode_kept, number_kept}

pub none_low : AreWords []
none_low i = omega arith

pub cons_low : (x : ℕ) (xs : List ℕ) → x < 65536 → AreWords xs → AreWords (x ∷ xs)
cons_low x xs h k zero = h
cons_low x xs h k (suc i) = k i

pub append_low : (xs ys : List ℕ) → AreWords xs → AreWords ys → AreWords (xs ++ ys)
append_low [] ys h k i = k i
append_low (x ∷ xs) ys h k zero = h 0
append_low (x ∷ xs) ys h k (suc i) = append_low xs ys (λ j. h (suc j)) k i

pub size_low : (size : Size) (n : ℕ) → n < modulus_of size → AreWords (number_words size n)
size_low Byte n h = cons_low n [] (omega arith) none_low
size_low Word n h = cons_low n [] h none_low
size_low Long n h = cons_low (n / 65536) (n % 65536 ∷ []) (omega arith) (cons_low (n % 65536) [] (omega arith) none_low)

eight_fits : (size : Size) → 8 < modulus_of size
eight_fits Byte = omega arith
eight_fits Word = omega arith
eight_fits Long = omega arith

number_low : (a : Bool) (size : Size) (k : ℕ) (words : List ℕ) → AreWords words → AreWords (number_words size (number_kept a (number_at size k words)))
number_low true size k words all = size_low size (number_at size k words) ((number_below size k words all).fits)
number_low false size k words all = size_low size 8 (eight_fits size)

brief_low : (index : ℕ) (long : Bool) (by : ℕ) → index < 16 → by < 256 → brief index long by < 65536
brief_low index true by h k = omega arith
brief_low index false by h k = omega arith

filled_read : (size : Size) (mode : Mode) → IsRead size mode → IsRead size (mode_filled mode)
filled_read size (modes.Displaced n by) h = record { registers = h.registers; written = omega arith; fits = tt }
filled_read size (modes.Indexed n index long by) h = record { registers = h.registers; written = omega arith; fits = tt }
filled_read size (modes.AbsShort at) h = record { registers = tt; written = omega arith; fits = tt }
filled_read size (modes.AbsLong at) h = record { registers = tt; written = omega arith; fits = tt }
filled_read size (modes.PcDisplaced by) h = record { registers = tt; written = omega arith; fits = tt }
filled_read size (modes.PcIndexed index long by) h = record { registers = h.registers; written = omega arith; fits = tt }
filled_read size (modes.Immediate n) h = record { registers = tt; written = omega arith; fits = eight_fits size }
filled_read size (modes.Data n) h = h
filled_read size (modes.Address n) h = h
filled_read size (modes.Indirect n) h = h
filled_read size (modes.PostInc n) h = h
filled_read size (modes.PreDec n) h = h

pub mode_low : (size : Size) (mode : Mode) → IsRead size mode → AreWords (mode_words size mode)
unfolding mode_words
mode_low size (modes.Displaced n by) h = cons_low by [] h.written none_low
mode_low size (modes.Indexed n index long by) h = cons_low (brief index long by) [] (brief_low index long by (h.registers.1) h.written) none_low
mode_low size (modes.AbsShort at) h = cons_low at [] h.written none_low
mode_low size (modes.AbsLong at) h = size_low Long at h.written
mode_low size (modes.PcDisplaced by) h = cons_low by [] h.written none_low
mode_low size (modes.PcIndexed index long by) h = cons_low (brief index long by) [] (brief_low index long by h.registers h.written) none_low
mode_low size (modes.Immediate n) h = size_low size n h.fits
mode_low size (modes.Data n) h = none_low
mode_low size (modes.Address n) h = none_low
mode_low size (modes.Indirect n) h = none_low
mode_low size (modes.PostInc n) h = none_low
mode_low size (modes.PreDec n) h = none_low

kept_low : (a : Bool) (size : Size) (mode : Mode) → IsRead size mode → AreWords (mode_words size (mode_kept a mode))
kept_low true size mode h = mode_low size mode h
kept_low false size mode h = mode_low size (mode_filled mode) (filled_read size mode h)

low : (a : Bool) (size : Size) (k : ℕ) (words : List ℕ) → AreWords words → AreWords (mode_words size (mode_kept a (low_mode size k words)))
low a size k words all = kept_low a size (low_mode size k words) (low_is_read size k words all)

high : (a : Bool) (size : Size) (k : ℕ) (words : List ℕ) → AreWords words → AreWords (mode_words size (mode_kept a (high_mode size k words)))
high a size k words all = kept_low a size (high_mode size k words) (high_is_read size k words all)

pub extension_low : (a b : Bool) (row : Row) (words : List ℕ) → is_branch row ≡ false → AreWords words → AreWords (extension (op_kept a b (made row words).op))
unfolding made extension
extension_low a b (rows.Immediate own) words h all = append_low _ _ (number_low a (size_of words) 1 words all) (low b (size_of words) (1 + words_of_number (size_of words)) words all)
extension_low a b rows.CompareImmediate words h all = append_low _ _ (number_low a (size_of words) 1 words all) (low b (size_of words) (1 + words_of_number (size_of words)) words all)
extension_low a b (rows.ImmediateToCcr own) words h all = number_low a Byte 1 words all
extension_low a b (rows.ImmediateToSr own) words h all = number_low a Word 1 words all
extension_low a b (rows.BitByRegister own) words h all = low b Byte 1 words all
extension_low a b (rows.BitByNumber own) words h all = append_low (number_words Byte (number_kept a (number_at Byte 1 words))) _ (number_low a Byte 1 words all) (low b Byte 2 words all)
extension_low a b rows.MovepToRegister words h all = number_low a Word 1 words all
extension_low a b rows.MovepToMemory words h all = number_low b Word 1 words all
extension_low a b (rows.Move size) words h all = append_low _ _ (low a size 1 words all) (high b size (1 + words_of_mode size (low_mode size 1 words)) words all)
extension_low a b (rows.Movea size) words h all = low a size 1 words all
extension_low a b (rows.Unary own) words h all = low a (size_of words) 1 words all
extension_low a b rows.MoveFromSr words h all = low b Word 1 words all
extension_low a b rows.MoveToCcr words h all = low a Word 1 words all
extension_low a b rows.MoveToSr words h all = low a Word 1 words all
extension_low a b rows.Nbcd words h all = low a Byte 1 words all
extension_low a b rows.Pea words h all = low a Long 1 words all
extension_low a b rows.MovemToMemory words h all = append_low (number_words Word (number_at Word 1 words)) _ (number_low true Word 1 words all) (low b (word_or_long 64 words) 2 words all)
extension_low a b rows.MovemToRegisters words h all = append_low (number_words Word (number_at Word 1 words)) _ (number_low true Word 1 words all) (low a (word_or_long 64 words) 2 words all)
extension_low a b rows.Tst words h all = low a (size_of words) 1 words all
extension_low a b rows.Tas words h all = low a Byte 1 words all
extension_low a b rows.Link words h all = number_low b Word 1 words all
extension_low a b rows.Stop words h all = number_low a Word 1 words all
extension_low a b rows.Jsr words h all = low a Long 1 words all
extension_low a b rows.Jmp words h all = low a Long 1 words all
extension_low a b rows.Lea words h all = low a Long 1 words all
extension_low a b rows.Chk words h all = low a Word 1 words all
extension_low a b (rows.Quick own) words h all = low b (size_of words) 1 words all
extension_low a b rows.Scc words h all = low a Byte 1 words all
extension_low a b rows.Dbcc words h all = cc
extension_low a b rows.Bra words h all = cc
extension_low a b rows.Bsr words h all = cc
extension_low a b rows.Bcc words h all = cc
extension_low a b rows.Divu words h all = low a Word 1 words all
extension_low a b rows.Divs words h all = low a Word 1 words all
extension_low a b rows.Mulu words h all = low a Word 1 words all
extension_low a b rows.Muls words h all = low a Word 1 words all
extension_low a b (rows.ToRegister own) words h all = low a (size_of words) 1 words all
extension_low a b (rows.ToMemory own) words h all = low b (size_of words) 1 words all
extension_low a b (rows.ToAddress own) words h all = low a (word_or_long 256 words) 1 words all
extension_low a b rows.Cmp words h all = low a (size_of words) 1 words all
extension_low a b rows.Cmpa words h all = low a (word_or_long 256 words) 1 words all
extension_low a b rows.Eor words h all = low b (size_of words) 1 words all
extension_low a b rows.ShiftMemory words h all = low a Word 1 words all
extension_low a b _ words h all = none_low
