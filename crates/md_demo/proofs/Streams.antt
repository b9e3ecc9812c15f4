-- The words of a generator, one after another.
use Rattle.std.proofs.Common.{◌≡◌, ℕ, zero, suc, ◌-◌, ◌<◌, ◌≤◌, List, ◌++◌, refl, append_assoc, append-nil, arith}
use Rattle.std.specs.List.{flat_map}
use Rattle.rand_core.specs.Steps.{first_words}
use Rattle.rand_pcg.specs.Lcg.{Lcg}
use Rattle.rand_pcg.specs.Pcg.{pcg32}
use Rattle.md_demo.specs.Demo.{long}

-- the first word, and those after it
words-cons : (n : ℕ) (g : Lcg) → flat_map long (first_words pcg32 (suc n) g) ≡ long (pcg32 g).0 ++ flat_map long (first_words pcg32 n (pcg32 g).1)
unfolding first_words
words-cons n g = refl

-- a word is put after bytes, and later the others
pub words_more : (bytes : List ℕ) (left : ℕ) (g : Lcg) → 0 < left
    → (bytes ++ long (pcg32 g).0) ++ flat_map long (first_words pcg32 (left - 1) (pcg32 g).1) ≡ bytes ++ flat_map long (first_words pcg32 left g)
words_more bytes zero g some = absurd (omega arith)
words_more bytes (suc n) g some =
    let one : suc n - 1 ≡ n = omega arith in
    rw (one, append_assoc, words-cons n g) refl

-- none is left
pub words_end : (bytes : List ℕ) (left : ℕ) (g : Lcg) → left ≤ 0 → bytes ++ flat_map long (first_words pcg32 left g) ≡ bytes
unfolding first_words
words_end bytes zero g none = append-nil bytes
words_end bytes (suc n) g none = absurd (omega arith)
