-- The words of what words decode to are decoded to the same, whatever follows them.
use Rattle.std.proofs.Common.{◌≡◌, ℕ, zero, suc, ◌+◌, ◌*◌, ◌/◌, ◌%◌, ◌<◌, ◌==◌, Bool, true, false, List, [], ◌∷◌, ◌++◌, length, Option, Some, None, append_assoc, refl, ap, ◌∙◌, sym, arith}
use Rattle.std.specs.Prelude.{slice_index}
use Rattle.std.proofs.Math.Seq.{get_or-append_seam}
use Rattle.std.proofs.lemmas.List.{get_or-append-add}
use Rattle.std.proofs.lemmas.Bool.Decides.{nat_tests}
use Rattle.md_word.specs.Fields.{bit_of}
use Rattle.md_word.specs.declared.mode.Mode.{Mode}
use Rattle.md_word.specs.declared.mode.Mode.TheVariants as modes
use Rattle.md_word.specs.declared.size.Size.{Size}
use Rattle.md_word.specs.declared.size.Size.TheVariants.{Byte, Word, Long}
use Rattle.m68k_decode.specs.Fields.{high_register, low_register, size_of, word_or_long, number_at, words_of_number, mode_of, words_of_mode, low_mode, high_mode, paired, quick, condition_of, displacement_of}
use Rattle.m68k_decode.specs.Instructions.{made, unmatched, instruction_of, picked}
use Rattle.m68k_decode.specs.Nested.{nested}
use Rattle.m68k_decode.specs.Rows as rows
use Rattle.m68k_decode.specs.Rows.{Row}
use Rattle.m68k_decode.proofs.Table.{decoded_is_picked}
use Rattle.asm_m68k.specs.Encoding.{brief, displacement_words, encoded, extension, mode_words, number_words}
use Rattle.asm_m68k.proofs.FirstWord.{first_again}

-- ---- places of a list

pub at_end : (front : List ℕ) (x : ℕ) (rest : List ℕ) (k : ℕ) → length front ≡ k → slice_index (front ++ (x ∷ rest)) k ≡ x
at_end front x rest k e = rw (sym e) (get_or-append_seam front x rest 0)

pub after_end : (front : List ℕ) (x y : ℕ) (rest : List ℕ) (k : ℕ) → length front ≡ k → slice_index (front ++ (x ∷ y ∷ rest)) (k + 1) ≡ y
after_end front x y rest k e = rw (sym e) (get_or-append-add front (x ∷ y ∷ rest) 1 0)

-- ---- numbers and modes

low_byte : (n : ℕ) → n % 256 % 256 ≡ n % 256
low_byte n = omega arith

pub halves : (n : ℕ) → n / 65536 * 65536 + n % 65536 ≡ n
halves n = omega arith

pub number_again : (size : Size) (k : ℕ) (words front rest : List ℕ) → length front ≡ k
    → number_at size k (front ++ (number_words size (number_at size k words) ++ rest)) ≡ number_at size k words
unfolding number_at
number_again Byte k words front rest e = ap (λ (x : ℕ). x % 256) (at_end front (slice_index words k % 256) rest k e) ∙ low_byte (slice_index words k)
number_again Word k words front rest e = at_end front (slice_index words k) rest k e
number_again Long k words front rest e =
    let n : ℕ = slice_index words k * 0x1_0000 + slice_index words (k + 1) in
    let high = at_end front (n / 65536) (n % 65536 ∷ rest) k e in
    let low = after_end front (n / 65536) (n % 65536) rest k e in
    let whole = halves n in
    cc

pub brief-index : (index : ℕ) (long : Bool) (by : ℕ) → by < 256 → brief index long by / 4096 ≡ index
brief-index index true by h = omega arith
brief-index index false by h = omega arith

pub brief-by : (index : ℕ) (long : Bool) (by : ℕ) → by < 256 → brief index long by % 256 ≡ by
brief-by index true by h = omega arith
brief-by index false by h = omega arith

pub brief-bit : (index : ℕ) (long : Bool) (by : ℕ) → by < 256 → bit_of (brief index long by) 2048 ≡ long
brief-bit index true by h = grind (arith, nat_tests)
brief-bit index false by h = grind (arith, nat_tests)

-- a word that is the brief extension word of another one's fields
record IsBrief (x word : ℕ) : Type 0 where
  index : x / 4096 ≡ word / 4096
  long : bit_of x 2048 ≡ bit_of word 2048
  by : x % 256 ≡ word % 256

brief_parts : (x word : ℕ) → x ≡ brief (word / 4096) (bit_of word 2048) (word % 256) → IsBrief x word
brief_parts x word e =
    let few : word % 256 < 256 = omega arith in
    rw e (record {
      index = brief-index (word / 4096) (bit_of word 2048) (word % 256) few;
      long = brief-bit (word / 4096) (bit_of word 2048) (word % 256) few;
      by = brief-by (word / 4096) (bit_of word 2048) (word % 256) few;
    })

brief_at : (words front rest : List ℕ) (k : ℕ) → length front ≡ k
    → IsBrief (slice_index (front ++ (brief (slice_index words k / 4096) (bit_of (slice_index words k) 2048) (slice_index words k % 256) ∷ rest)) k) (slice_index words k)
brief_at words front rest k e = brief_parts _ (slice_index words k) (at_end front (brief (slice_index words k / 4096) (bit_of (slice_index words k) 2048) (slice_index words k % 256)) rest k e)

indexed_same : (r x word : ℕ) → IsBrief x word → modes.Indexed r (x / 4096) (bit_of x 2048) (x % 256) ≡ modes.Indexed r (word / 4096) (bit_of word 2048) (word % 256)
indexed_same r x word same = rw (same.index, same.long, same.by) refl

pc_indexed_same : (x word : ℕ) → IsBrief x word → modes.PcIndexed (x / 4096) (bit_of x 2048) (x % 256) ≡ modes.PcIndexed (word / 4096) (bit_of word 2048) (word % 256)
pc_indexed_same x word same = rw (same.index, same.long, same.by) refl

-- a mode is read again from its extension words
pub mode_again : (m r : ℕ) (size : Size) (k : ℕ) (words front rest : List ℕ) → m < 8 → r < 8 → length front ≡ k
    → mode_of m r size k (front ++ (mode_words size (mode_of m r size k words) ++ rest)) ≡ mode_of m r size k words
unfolding mode_of mode_words
mode_again zero r size k words front rest g h e = refl
mode_again (suc zero) r size k words front rest g h e = refl
mode_again (suc (suc zero)) r size k words front rest g h e = refl
mode_again (suc (suc (suc zero))) r size k words front rest g h e = refl
mode_again (suc (suc (suc (suc zero)))) r size k words front rest g h e = refl
mode_again (suc (suc (suc (suc (suc zero))))) r size k words front rest g h e = ap (modes.Displaced r) (at_end front (slice_index words k) rest k e)
mode_again (suc (suc (suc (suc (suc (suc zero)))))) r size k words front rest g h e = indexed_same r _ _ (brief_at words front rest k e)
mode_again (suc (suc (suc (suc (suc (suc (suc zero))))))) zero size k words front rest g h e = ap modes.AbsShort (at_end front (slice_index words k) rest k e)
mode_again (suc (suc (suc (suc (suc (suc (suc zero))))))) (suc zero) size k words front rest g h e = ap modes.AbsLong (number_again Long k words front rest e)
mode_again (suc (suc (suc (suc (suc (suc (suc zero))))))) (suc (suc zero)) size k words front rest g h e = ap modes.PcDisplaced (at_end front (slice_index words k) rest k e)
mode_again (suc (suc (suc (suc (suc (suc (suc zero))))))) (suc (suc (suc zero))) size k words front rest g h e = pc_indexed_same _ _ (brief_at words front rest k e)
mode_again (suc (suc (suc (suc (suc (suc (suc zero))))))) (suc (suc (suc (suc zero)))) size k words front rest g h e = ap modes.Immediate (number_again size k words front rest e)
mode_again (suc (suc (suc (suc (suc (suc (suc zero))))))) (suc (suc (suc (suc (suc zero))))) size k words front rest g h e = ap modes.Immediate (number_again size k words front rest e)
mode_again (suc (suc (suc (suc (suc (suc (suc zero))))))) (suc (suc (suc (suc (suc (suc zero)))))) size k words front rest g h e = ap modes.Immediate (number_again size k words front rest e)
mode_again (suc (suc (suc (suc (suc (suc (suc zero))))))) (suc (suc (suc (suc (suc (suc (suc zero))))))) size k words front rest g h e = ap modes.Immediate (number_again size k words front rest e)
mode_again (suc (suc (suc (suc (suc (suc (suc zero))))))) (suc (suc (suc (suc (suc (suc (suc (suc r)))))))) size k words front rest g h e = absurd (omega arith)
mode_again (suc (suc (suc (suc (suc (suc (suc (suc m)))))))) r size k words front rest g h e = absurd (omega arith)

low_again : (size : Size) (k w : ℕ) (tail front rest : List ℕ) → length (w ∷ front) ≡ k
    → low_mode size k (w ∷ (front ++ (mode_words size (low_mode size k (w ∷ tail)) ++ rest))) ≡ low_mode size k (w ∷ tail)
unfolding low_mode
low_again size k w tail front rest e = mode_again (w / 8 % 8) (w % 8) size k (w ∷ tail) (w ∷ front) rest (omega arith) (omega arith) e

high_again : (size : Size) (k w : ℕ) (tail front rest : List ℕ) → length (w ∷ front) ≡ k
    → high_mode size k (w ∷ (front ++ (mode_words size (high_mode size k (w ∷ tail)) ++ rest))) ≡ high_mode size k (w ∷ tail)
unfolding high_mode
high_again size k w tail front rest e = mode_again (w / 64 % 8) (w / 512 % 8) size k (w ∷ tail) (w ∷ front) rest (omega arith) (omega arith) e

pub words_counted : (size : Size) (mode : Mode) → length (mode_words size mode) ≡ words_of_mode size mode
unfolding mode_words
words_counted size (modes.Data n) = refl
words_counted size (modes.Address n) = refl
words_counted size (modes.Indirect n) = refl
words_counted size (modes.PostInc n) = refl
words_counted size (modes.PreDec n) = refl
words_counted size (modes.Displaced n by) = refl
words_counted size (modes.Indexed n index long by) = refl
words_counted size (modes.AbsShort at) = refl
words_counted size (modes.AbsLong at) = refl
words_counted size (modes.PcDisplaced by) = refl
words_counted size (modes.PcIndexed index long by) = refl
words_counted Byte (modes.Immediate value) = refl
words_counted Word (modes.Immediate value) = refl
words_counted Long (modes.Immediate value) = refl

-- ---- rows

-- a mode whose extension words come first
one : (size : Size) (w : ℕ) (tail rest : List ℕ) → low_mode size 1 (w ∷ (mode_words size (low_mode size 1 (w ∷ tail)) ++ rest)) ≡ low_mode size 1 (w ∷ tail)
one size w tail rest = low_again size 1 w tail [] rest refl

-- after one word
two : (size : Size) (w x : ℕ) (tail rest : List ℕ) → low_mode size 2 (w ∷ x ∷ (mode_words size (low_mode size 2 (w ∷ tail)) ++ rest)) ≡ low_mode size 2 (w ∷ tail)
two size w x tail rest = low_again size 2 w tail (x ∷ []) rest refl

-- a number and the mode after it
record HasNumberAndMode (size : Size) (u words : List ℕ) : Type 0 where
  number : number_at size 1 u ≡ number_at size 1 words
  mode : low_mode size (1 + words_of_number size) u ≡ low_mode size (1 + words_of_number size) words

with_number : (size : Size) (w : ℕ) (tail rest : List ℕ)
    → HasNumberAndMode size (w ∷ ((number_words size (number_at size 1 (w ∷ tail)) ++ mode_words size (low_mode size (1 + words_of_number size) (w ∷ tail))) ++ rest)) (w ∷ tail)
with_number Byte w tail rest = record {
  number = number_again Byte 1 (w ∷ tail) (w ∷ []) (mode_words Byte (low_mode Byte 2 (w ∷ tail)) ++ rest) refl;
  mode = two Byte w _ tail rest;
}
with_number Word w tail rest = record {
  number = number_again Word 1 (w ∷ tail) (w ∷ []) (mode_words Word (low_mode Word 2 (w ∷ tail)) ++ rest) refl;
  mode = two Word w _ tail rest;
}
with_number Long w tail rest = record {
  number = number_again Long 1 (w ∷ tail) (w ∷ []) (mode_words Long (low_mode Long 3 (w ∷ tail)) ++ rest) refl;
  mode = low_again Long 3 w tail (number_at Long 1 (w ∷ tail) / 65536 ∷ number_at Long 1 (w ∷ tail) % 65536 ∷ []) rest refl;
}

-- a word after the first, and a byte
pub second_word : (w : ℕ) (tail rest : List ℕ) → number_at Word 1 (w ∷ number_at Word 1 (w ∷ tail) ∷ rest) ≡ number_at Word 1 (w ∷ tail)
unfolding number_at
second_word w tail rest = refl

second_byte : (w : ℕ) (tail rest : List ℕ) → number_at Byte 1 (w ∷ number_at Byte 1 (w ∷ tail) ∷ rest) ≡ number_at Byte 1 (w ∷ tail)
unfolding number_at
second_byte w tail rest = low_byte _

-- MOVE: the target's extension words follow those of the source
record HasModes (size : Size) (u words : List ℕ) : Type 0 where
  source : low_mode size 1 u ≡ low_mode size 1 words
  target : high_mode size (1 + words_of_mode size (low_mode size 1 words)) u ≡ high_mode size (1 + words_of_mode size (low_mode size 1 words)) words

front_counted : (size : Size) (w : ℕ) (mode : Mode) → length (w ∷ mode_words size mode) ≡ 1 + words_of_mode size mode
front_counted size w mode = let e = words_counted size mode in omega (arith, e)

with_both : (size : Size) (w : ℕ) (tail rest : List ℕ)
    → HasModes size (w ∷ ((mode_words size (low_mode size 1 (w ∷ tail)) ++ mode_words size (high_mode size (1 + words_of_mode size (low_mode size 1 (w ∷ tail))) (w ∷ tail))) ++ rest)) (w ∷ tail)
with_both size w tail rest =
    let source = mode_words size (low_mode size 1 (w ∷ tail)) in
    let target = mode_words size (high_mode size (1 + words_of_mode size (low_mode size 1 (w ∷ tail))) (w ∷ tail)) in
    rw (append_assoc source target rest) (record {
      source = one size w tail (target ++ rest);
      target = high_again size (1 + words_of_mode size (low_mode size 1 (w ∷ tail))) w tail source rest (front_counted size w (low_mode size 1 (w ∷ tail)));
    })

-- a branch
displacement_by : (b : Bool) (w : ℕ) (tail rest : List ℕ) → (w % 256 == 0) ≡ b
    → displacement_of (w ∷ (displacement_words (displacement_of (w ∷ tail)) ++ rest)) ≡ displacement_of (w ∷ tail)
unfolding displacement_of
displacement_by true w tail rest e = rw e refl
displacement_by false w tail rest e = rw e refl

displacement_again : (w : ℕ) (tail rest : List ℕ) → displacement_of (w ∷ (displacement_words (displacement_of (w ∷ tail)) ++ rest)) ≡ displacement_of (w ∷ tail)
displacement_again w tail rest = displacement_by (w % 256 == 0) w tail rest refl

-- each row
made_again : (row : Row) (w : ℕ) (tail rest : List ℕ) → made row (w ∷ (extension (made row (w ∷ tail)).op ++ rest)) ≡ made row (w ∷ tail)
unfolding made extension high_register low_register size_of word_or_long paired quick condition_of
made_again (rows.Immediate task) w tail rest = let e = with_number (size_of (w ∷ tail)) w tail rest in rw (e.number, e.mode) refl
made_again rows.CompareImmediate w tail rest = let e = with_number (size_of (w ∷ tail)) w tail rest in rw (e.number, e.mode) refl
made_again (rows.ImmediateToCcr task) w tail rest = rw (second_byte w tail rest) refl
made_again (rows.ImmediateToSr task) w tail rest = rw (second_word w tail rest) refl
made_again (rows.BitByRegister task) w tail rest = rw (one Byte w tail rest) refl
made_again (rows.BitByNumber task) w tail rest = rw (second_byte w tail _, two Byte w _ tail rest) refl
made_again rows.MovepToRegister w tail rest = rw (second_word w tail rest) refl
made_again rows.MovepToMemory w tail rest = rw (second_word w tail rest) refl
made_again (rows.Move size) w tail rest = let e = with_both size w tail rest in rw (e.source, e.target) refl
made_again (rows.Movea size) w tail rest = rw (one size w tail rest) refl
made_again (rows.Unary task) w tail rest = rw (one (size_of (w ∷ tail)) w tail rest) refl
made_again rows.MoveFromSr w tail rest = rw (one Word w tail rest) refl
made_again rows.MoveToCcr w tail rest = rw (one Word w tail rest) refl
made_again rows.MoveToSr w tail rest = rw (one Word w tail rest) refl
made_again rows.Nbcd w tail rest = rw (one Byte w tail rest) refl
made_again rows.Swap w tail rest = refl
made_again rows.Ext w tail rest = refl
made_again rows.Pea w tail rest = rw (one Long w tail rest) refl
made_again rows.MovemToMemory w tail rest = rw (second_word w tail _, two (word_or_long 64 (w ∷ tail)) w _ tail rest) refl
made_again rows.MovemToRegisters w tail rest = rw (second_word w tail _, two (word_or_long 64 (w ∷ tail)) w _ tail rest) refl
made_again rows.Tst w tail rest = rw (one (size_of (w ∷ tail)) w tail rest) refl
made_again rows.Tas w tail rest = rw (one Byte w tail rest) refl
made_again rows.Illegal w tail rest = refl
made_again rows.Trap w tail rest = refl
made_again rows.Link w tail rest = rw (second_word w tail rest) refl
made_again rows.Unlk w tail rest = refl
made_again rows.MoveToUsp w tail rest = refl
made_again rows.MoveFromUsp w tail rest = refl
made_again rows.Reset w tail rest = refl
made_again rows.Nop w tail rest = refl
made_again rows.Stop w tail rest = rw (second_word w tail rest) refl
made_again rows.Rte w tail rest = refl
made_again rows.Rts w tail rest = refl
made_again rows.Trapv w tail rest = refl
made_again rows.Rtr w tail rest = refl
made_again rows.Jsr w tail rest = rw (one Long w tail rest) refl
made_again rows.Jmp w tail rest = rw (one Long w tail rest) refl
made_again rows.Lea w tail rest = rw (one Long w tail rest) refl
made_again rows.Chk w tail rest = rw (one Word w tail rest) refl
made_again (rows.Quick task) w tail rest = rw (one (size_of (w ∷ tail)) w tail rest) refl
made_again rows.Scc w tail rest = rw (one Byte w tail rest) refl
made_again rows.Dbcc w tail rest = rw (second_word w tail rest) refl
made_again rows.Bra w tail rest = rw (displacement_again w tail rest) refl
made_again rows.Bsr w tail rest = rw (displacement_again w tail rest) refl
made_again rows.Bcc w tail rest = rw (displacement_again w tail rest) refl
made_again rows.Moveq w tail rest = refl
made_again rows.Divu w tail rest = rw (one Word w tail rest) refl
made_again rows.Divs w tail rest = rw (one Word w tail rest) refl
made_again (rows.Decimal task) w tail rest = refl
made_again (rows.Extended task) w tail rest = refl
made_again (rows.ToRegister task) w tail rest = rw (one (size_of (w ∷ tail)) w tail rest) refl
made_again (rows.ToMemory task) w tail rest = rw (one (size_of (w ∷ tail)) w tail rest) refl
made_again (rows.ToAddress task) w tail rest = rw (one (word_or_long 256 (w ∷ tail)) w tail rest) refl
made_again rows.Cmp w tail rest = rw (one (size_of (w ∷ tail)) w tail rest) refl
made_again rows.Cmpa w tail rest = rw (one (word_or_long 256 (w ∷ tail)) w tail rest) refl
made_again rows.Eor w tail rest = rw (one (size_of (w ∷ tail)) w tail rest) refl
made_again rows.Cmpm w tail rest = refl
made_again rows.Mulu w tail rest = rw (one Word w tail rest) refl
made_again rows.Muls w tail rest = rw (one Word w tail rest) refl
made_again rows.ExgData w tail rest = refl
made_again rows.ExgAddress w tail rest = refl
made_again rows.ExgMixed w tail rest = refl
made_again rows.ShiftByNumber w tail rest = refl
made_again rows.ShiftByRegister w tail rest = refl
made_again rows.ShiftMemory w tail rest = rw (one Word w tail rest) refl

pub none_op : (w : ℕ) (tail rest : List ℕ) → unmatched (w ∷ rest) ≡ unmatched (w ∷ tail)
unfolding unmatched
none_op w tail rest = refl

picked_again : (row : Option Row) (w : ℕ) (tail rest : List ℕ) → picked row (w ∷ (extension (picked row (w ∷ tail)).op ++ rest)) ≡ picked row (w ∷ tail)
picked_again None w tail rest = none_op w tail _
picked_again (Some row) w tail rest = made_again row w tail rest

-- what words decode to is what its words decode to, whatever follows them
pub decoded_again : (w : ℕ) (tail rest : List ℕ) → w < 65536 → instruction_of (encoded (instruction_of (w ∷ tail)).op ++ rest) ≡ instruction_of (w ∷ tail)
decoded_again w tail rest h =
    rw (first_again w tail h, decoded_is_picked (w ∷ (extension (instruction_of (w ∷ tail)).op ++ rest)) h, decoded_is_picked (w ∷ tail) h)
    (picked_again (nested w) w tail rest)
