-- Numbers and modes are read again from their extension words, with 8 for a number too.
use Rattle.std.proofs.Common.{◌≡◌, ℕ, zero, suc, ◌/◌, ◌%◌, ◌<◌, Bool, true, false, List, ◌∷◌, ◌++◌, length, refl, ap, ◌∙◌, arith}
use Rattle.std.specs.Prelude.{slice_index}
use Rattle.md_word.specs.Fields.{bit_of}
use Rattle.md_word.specs.declared.mode.Mode.{Mode}
use Rattle.md_word.specs.declared.mode.Mode.TheVariants as modes
use Rattle.md_word.specs.declared.size.Size.{Size}
use Rattle.md_word.specs.declared.size.Size.TheVariants.{Byte, Word, Long}
use Rattle.m68k_decode.specs.Fields.{number_at, mode_of, words_of_mode, low_mode, high_mode}
use Rattle.asm_m68k.specs.Table.{AreWords}
use Rattle.asm_m68k.specs.Encoding.{brief, mode_words, number_words}
use Rattle.md_asm.proofs.Rows68.{mode_filled, mode_kept, number_kept}
use Rattle.asm_m68k.proofs.Again.{at_end, after_end, number_again, brief-index, brief-by, brief-bit, mode_again, words_counted}

-- ---- with 8 for a number

number_eight : (size : Size) (k : ℕ) (front rest : List ℕ) → length front ≡ k → number_at size k (front ++ (number_words size 8 ++ rest)) ≡ 8
unfolding number_at
number_eight Byte k front rest e = ap (λ (x : ℕ). x % 256) (at_end front 8 rest k e)
number_eight Word k front rest e = at_end front 8 rest k e
number_eight Long k front rest e =
    let high = at_end front 0 (8 ∷ rest) k e in
    let low = after_end front 0 8 rest k e in
    rw (high, low) refl

brief_eight : (x word : ℕ) → word < 65536 → x ≡ brief (word / 4096) (bit_of word 2048) 8 → (x / 4096 ≡ word / 4096) × (bit_of x 2048 ≡ bit_of word 2048) × (x % 256 ≡ 8)
brief_eight x word h e =
    let few : 8 < 256 = omega arith in
    rw e (brief-index (word / 4096) (bit_of word 2048) 8 few, brief-bit (word / 4096) (bit_of word 2048) 8 few, brief-by (word / 4096) (bit_of word 2048) 8 few)

indexed_eight : (r x word : ℕ) → word < 65536 → x ≡ brief (word / 4096) (bit_of word 2048) 8 → modes.Indexed r (x / 4096) (bit_of x 2048) (x % 256) ≡ modes.Indexed r (word / 4096) (bit_of word 2048) 8
indexed_eight r x word h e = let s = brief_eight x word h e in rw (s.0, s.1, s.2) refl

pc_indexed_eight : (x word : ℕ) → word < 65536 → x ≡ brief (word / 4096) (bit_of word 2048) 8 → modes.PcIndexed (x / 4096) (bit_of x 2048) (x % 256) ≡ modes.PcIndexed (word / 4096) (bit_of word 2048) 8
pc_indexed_eight x word h e = let s = brief_eight x word h e in rw (s.0, s.1, s.2) refl

mode_eight : (m r : ℕ) (size : Size) (k : ℕ) (words front rest : List ℕ) → AreWords words → m < 8 → r < 8 → length front ≡ k
    → mode_of m r size k (front ++ (mode_words size (mode_filled (mode_of m r size k words)) ++ rest)) ≡ mode_filled (mode_of m r size k words)
unfolding mode_of mode_words
mode_eight zero r size k words front rest all g h e = refl
mode_eight (suc zero) r size k words front rest all g h e = refl
mode_eight (suc (suc zero)) r size k words front rest all g h e = refl
mode_eight (suc (suc (suc zero))) r size k words front rest all g h e = refl
mode_eight (suc (suc (suc (suc zero)))) r size k words front rest all g h e = refl
mode_eight (suc (suc (suc (suc (suc zero))))) r size k words front rest all g h e = ap (modes.Displaced r) (at_end front 8 rest k e)
mode_eight (suc (suc (suc (suc (suc (suc zero)))))) r size k words front rest all g h e = indexed_eight r _ (slice_index words k) (all k) (at_end front (brief (slice_index words k / 4096) (bit_of (slice_index words k) 2048) 8) rest k e)
mode_eight (suc (suc (suc (suc (suc (suc (suc zero))))))) zero size k words front rest all g h e = ap modes.AbsShort (at_end front 8 rest k e)
mode_eight (suc (suc (suc (suc (suc (suc (suc zero))))))) (suc zero) size k words front rest all g h e = ap modes.AbsLong (number_eight Long k front rest e)
mode_eight (suc (suc (suc (suc (suc (suc (suc zero))))))) (suc (suc zero)) size k words front rest all g h e = ap modes.PcDisplaced (at_end front 8 rest k e)
mode_eight (suc (suc (suc (suc (suc (suc (suc zero))))))) (suc (suc (suc zero))) size k words front rest all g h e = pc_indexed_eight _ (slice_index words k) (all k) (at_end front (brief (slice_index words k / 4096) (bit_of (slice_index words k) 2048) 8) rest k e)
mode_eight (suc (suc (suc (suc (suc (suc (suc zero))))))) (suc (suc (suc (suc zero)))) size k words front rest all g h e = ap modes.Immediate (number_eight size k front rest e)
mode_eight (suc (suc (suc (suc (suc (suc (suc zero))))))) (suc (suc (suc (suc (suc zero))))) size k words front rest all g h e = ap modes.Immediate (number_eight size k front rest e)
mode_eight (suc (suc (suc (suc (suc (suc (suc zero))))))) (suc (suc (suc (suc (suc (suc zero)))))) size k words front rest all g h e = ap modes.Immediate (number_eight size k front rest e)
mode_eight (suc (suc (suc (suc (suc (suc (suc zero))))))) (suc (suc (suc (suc (suc (suc (suc zero))))))) size k words front rest all g h e = ap modes.Immediate (number_eight size k front rest e)
mode_eight (suc (suc (suc (suc (suc (suc (suc zero))))))) (suc (suc (suc (suc (suc (suc (suc (suc r)))))))) size k words front rest all g h e = absurd (omega arith)
mode_eight (suc (suc (suc (suc (suc (suc (suc (suc m)))))))) r size k words front rest all g h e = absurd (omega arith)

-- ---- kept or not

pub low_kept : (kept : Bool) (size : Size) (k w : ℕ) (tail front rest : List ℕ) → AreWords (w ∷ tail) → length (w ∷ front) ≡ k
    → low_mode size k (w ∷ (front ++ (mode_words size (mode_kept kept (low_mode size k (w ∷ tail))) ++ rest))) ≡ mode_kept kept (low_mode size k (w ∷ tail))
unfolding low_mode
low_kept true size k w tail front rest all e = mode_again (w / 8 % 8) (w % 8) size k (w ∷ tail) (w ∷ front) rest (omega arith) (omega arith) e
low_kept false size k w tail front rest all e = mode_eight (w / 8 % 8) (w % 8) size k (w ∷ tail) (w ∷ front) rest all (omega arith) (omega arith) e

pub high_kept : (kept : Bool) (size : Size) (k w : ℕ) (tail front rest : List ℕ) → AreWords (w ∷ tail) → length (w ∷ front) ≡ k
    → high_mode size k (w ∷ (front ++ (mode_words size (mode_kept kept (high_mode size k (w ∷ tail))) ++ rest))) ≡ mode_kept kept (high_mode size k (w ∷ tail))
unfolding high_mode
high_kept true size k w tail front rest all e = mode_again (w / 64 % 8) (w / 512 % 8) size k (w ∷ tail) (w ∷ front) rest (omega arith) (omega arith) e
high_kept false size k w tail front rest all e = mode_eight (w / 64 % 8) (w / 512 % 8) size k (w ∷ tail) (w ∷ front) rest all (omega arith) (omega arith) e

pub numbers_kept : (kept : Bool) (size : Size) (k : ℕ) (words front rest : List ℕ) → length front ≡ k
    → number_at size k (front ++ (number_words size (number_kept kept (number_at size k words)) ++ rest)) ≡ number_kept kept (number_at size k words)
numbers_kept true size k words front rest e = number_again size k words front rest e
numbers_kept false size k words front rest e = number_eight size k front rest e

filled_counted : (size : Size) (mode : Mode) → words_of_mode size (mode_filled mode) ≡ words_of_mode size mode
filled_counted size (modes.Immediate n) = refl
filled_counted size mode = refl

pub kept_counted : (kept : Bool) (size : Size) (mode : Mode) → words_of_mode size (mode_kept kept mode) ≡ words_of_mode size mode
kept_counted true size mode = refl
kept_counted false size mode = filled_counted size mode

pub kept_long : (kept : Bool) (size : Size) (mode : Mode) → length (mode_words size (mode_kept kept mode)) ≡ words_of_mode size mode
kept_long kept size mode = words_counted size (mode_kept kept mode) ∙ kept_counted kept size mode
