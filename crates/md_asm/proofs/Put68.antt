-- Words of the 68000 with another number in an extension word: the mode that has it there has it, and all others stay.
use Rattle.std.proofs.Common.{◌≡◌, ℕ, zero, suc, ◌+◌, ◌*◌, ◌/◌, ◌%◌, ◌<◌, ◌≤◌, ◌==◌, Bool, true, false, List, [], ◌∷◌, nat_lt, refl, ap, ◌∙◌, arith, if◌then◌else◌}
use Rattle.std.specs.Prelude.{slice_index}
use Rattle.std.proofs.lemmas.Bool.Decides.{nat_tests}
use Rattle.md_word.specs.Width.{modulus_of}
use Rattle.md_word.specs.declared.mode.Mode.{Mode}
use Rattle.md_word.specs.declared.mode.Mode.TheVariants as modes
use Rattle.md_word.specs.declared.size.Size.{Size}
use Rattle.md_word.specs.declared.size.Size.TheVariants.{Byte, Word, Long}
use Rattle.m68k_decode.specs.Fields.{high_mode, low_mode, mode_of, number_at, words_of_mode, words_of_number}
use Rattle.asm_m68k.specs.Table.{AreWords}
use Rattle.md_asm.specs.Ranges.{mode_limit}
use Rattle.md_asm.proofs.Among.{below, byte_stays, no_number}
use Rattle.md_asm.proofs.Low68.{cons_low, none_low}
use Rattle.md_asm.proofs.Rows68.{mode_with}
use Rattle.asm_m68k.proofs.Again.{halves}

-- ---- four words after the first

abbrev following : (ℕ → ℕ) → List ℕ
following f = f 1 ∷ f 2 ∷ f 3 ∷ f 4 ∷ []

read : (w : ℕ) (f : ℕ → ℕ) (j : ℕ) → 1 ≤ j → j < 5 → slice_index (w ∷ following f) j ≡ f j
read w f zero low high = absurd (omega arith)
read w f (suc zero) low high = refl
read w f (suc (suc zero)) low high = refl
read w f (suc (suc (suc zero))) low high = refl
read w f (suc (suc (suc (suc zero)))) low high = refl
read w f (suc (suc (suc (suc (suc j))))) low high = absurd (omega arith)

all_after : (w : ℕ) (f : ℕ → ℕ) → w < 65536 → ((j : ℕ) → f j < 65536) → AreWords (w ∷ following f)
all_after w f low each = cons_low w (following f) low (cons_low (f 1) (f 2 ∷ f 3 ∷ f 4 ∷ []) (each 1) (cons_low (f 2) (f 3 ∷ f 4 ∷ []) (each 2) (cons_low (f 3) (f 4 ∷ []) (each 3) (cons_low (f 4) [] (each 4) none_low))))

-- words that are the same but from one on, so many
pub record IsPut (k count w : ℕ) (tail rest : List ℕ) : Type 0 where
  pub all : AreWords (w ∷ rest)
  pub before : (j : ℕ) → 1 ≤ j → j < k → slice_index (w ∷ rest) j ≡ slice_index (w ∷ tail) j
  pub after : (j : ℕ) → k + count ≤ j → j < 5 → slice_index (w ∷ rest) j ≡ slice_index (w ∷ tail) j

by_low : (b : Bool) (x y : ℕ) → x < 65536 → y < 65536 → (if b then x else y) < 65536
by_low true x y h k = h
by_low false x y h k = k

by_other : (j k x y : ℕ) (b : Bool) → (j == k) ≡ b → (j ≡ k → ⊥) → (if b then x else y) ≡ y
by_other j k x y true is apart = absurd (apart (grind (arith, nat_tests)))
by_other j k x y false is apart = refl

by_same : (j k x y : ℕ) (b : Bool) → (j == k) ≡ b → j ≡ k → (if b then x else y) ≡ x
by_same j k x y true is same = refl
by_same j k x y false is same = absurd (grind (arith, nat_tests))

-- one word
abbrev one : ℕ → ℕ → List ℕ → ℕ → ℕ
one k v words j = if j == k then v else slice_index words j

record IsOne (k v w : ℕ) (tail rest : List ℕ) : Type 0 where
  put : IsPut k 1 w tail rest
  at : slice_index (w ∷ rest) k ≡ v

one_word : (k v w : ℕ) (tail : List ℕ) → 1 ≤ k → k < 5 → v < 65536 → AreWords (w ∷ tail) → IsOne k v w tail (following (one k v (w ∷ tail)))
one_word k v w tail low high fits all =
    let f = one k v (w ∷ tail) in record {
      put = record {
        all = all_after w f (all 0) (λ j. by_low (j == k) v (slice_index (w ∷ tail) j) fits (all j));
        before = λ j a b. read w f j a (omega (arith, b, high)) ∙ by_other j k v (slice_index (w ∷ tail) j) (j == k) refl (λ e. omega (arith, e, b));
        after = λ j a b. read w f j (omega (arith, a)) b ∙ by_other j k v (slice_index (w ∷ tail) j) (j == k) refl (λ e. omega (arith, e, a));
      };
      at = read w f k low high ∙ by_same k k v (slice_index (w ∷ tail) k) (k == k) refl refl;
    }

-- two words
abbrev two : ℕ → ℕ → ℕ → List ℕ → ℕ → ℕ
two k u v words j = if j == k then u else (if j == k + 1 then v else slice_index words j)

record IsTwo (k u v w : ℕ) (tail rest : List ℕ) : Type 0 where
  put : IsPut k 2 w tail rest
  at : slice_index (w ∷ rest) k ≡ u
  next : slice_index (w ∷ rest) (k + 1) ≡ v

two_words : (k u v w : ℕ) (tail : List ℕ) → 1 ≤ k → k + 1 < 5 → u < 65536 → v < 65536 → AreWords (w ∷ tail) → IsTwo k u v w tail (following (two k u v (w ∷ tail)))
two_words k u v w tail low high fits too all =
    let f = two k u v (w ∷ tail) in record {
      put = record {
        all = all_after w f (all 0) (λ j. by_low (j == k) u _ fits (by_low (j == k + 1) v (slice_index (w ∷ tail) j) too (all j)));
        before = λ j a b. read w f j a (omega (arith, b, high)) ∙ by_other j k u _ (j == k) refl (λ e. omega (arith, e, b))
            ∙ by_other j (k + 1) v (slice_index (w ∷ tail) j) (j == k + 1) refl (λ e. omega (arith, e, b));
        after = λ j a b. read w f j (omega (arith, a)) b ∙ by_other j k u _ (j == k) refl (λ e. omega (arith, e, a))
            ∙ by_other j (k + 1) v (slice_index (w ∷ tail) j) (j == k + 1) refl (λ e. omega (arith, e, a));
      };
      at = read w f k low (omega (arith, high)) ∙ by_same k k u _ (k == k) refl refl;
      next = read w f (k + 1) (omega arith) high ∙ by_other (k + 1) k u _ (k + 1 == k) refl (λ e. omega (arith, e))
          ∙ by_same (k + 1) (k + 1) v (slice_index (w ∷ tail) (k + 1)) (k + 1 == k + 1) refl refl;
    }

-- ---- a number

pub record IsNumber (size : Size) (k n w : ℕ) (tail : List ℕ) : Type 0 where
  pub rest : List ℕ
  pub put : IsPut k (words_of_number size) w tail rest
  pub is : number_at size k (w ∷ rest) ≡ n

pub number_put : (size : Size) (k n w : ℕ) (tail : List ℕ) → 1 ≤ k → k < 4 → n < modulus_of size → AreWords (w ∷ tail) → IsNumber size k n w tail
unfolding number_at
number_put Byte k n w tail low high fits all =
    let o = one_word k n w tail low (omega arith) (omega (arith, fits)) all in record { rest = following (one k n (w ∷ tail)); put = o.put; is = rw o.at (byte_stays n fits) }
number_put Word k n w tail low high fits all =
    let o = one_word k n w tail low (omega arith) fits all in record { rest = following (one k n (w ∷ tail)); put = o.put; is = o.at }
number_put Long k n w tail low high fits all =
    let o = two_words k (n / 65536) (n % 65536) w tail low (omega arith) (omega (arith, fits)) (omega arith) all in
    record { rest = following (two k (n / 65536) (n % 65536) (w ∷ tail)); put = o.put; is = rw (o.at, o.next) (halves n) }

-- two lists have the same words from one on, so many
abbrev pub AreSame : ℕ → ℕ → List ℕ → List ℕ → Type 0
AreSame k count words others = (j : ℕ) → k ≤ j → j < k + count → slice_index words j ≡ slice_index others j

pub number_same : (size : Size) (k : ℕ) (words others : List ℕ) → AreSame k (words_of_number size) words others → number_at size k words ≡ number_at size k others
unfolding number_at
number_same Byte k words others same = ap (λ (v : ℕ). v % 256) (same k (omega arith) (omega arith))
number_same Word k words others same = same k (omega arith) (omega arith)
number_same Long k words others same = rw (same k (omega arith) (omega arith), same (k + 1) (omega arith) (omega arith)) refl

-- ---- a mode

pub record IsModePut (m r : ℕ) (size : Size) (k n w : ℕ) (tail : List ℕ) : Type 0 where
  pub rest : List ℕ
  pub put : IsPut k (words_of_mode size (mode_of m r size k (w ∷ tail))) w tail rest
  pub is : mode_of m r size k (w ∷ rest) ≡ mode_with n (mode_of m r size k (w ∷ tail))

-- the low byte of a brief extension word
brief_index : (x n : ℕ) → n < 256 → (x / 256 * 256 + n) / 4096 ≡ x / 4096
brief_index x n h = omega arith

brief_long : (x n : ℕ) → n < 256 → (x / 256 * 256 + n) / 2048 ≡ x / 2048
brief_long x n h = omega arith

brief_by : (x n : ℕ) → n < 256 → (x / 256 * 256 + n) % 256 ≡ n
brief_by x n h = omega arith

brief_fits : (x n : ℕ) → x < 65536 → n < 256 → x / 256 * 256 + n < 65536
brief_fits x n h k = omega arith

pub mode_put : (m r : ℕ) (size : Size) (k n w : ℕ) (tail : List ℕ) → m < 8 → r < 8 → 1 ≤ k → k < 4 → AreWords (w ∷ tail)
    → nat_lt n (mode_limit size (mode_of m r size k (w ∷ tail))) ≡ true → IsModePut m r size k n w tail
unfolding mode_of
mode_put zero r size k n w tail g h low high all fits = absurd (no_number n fits)
mode_put (suc zero) r size k n w tail g h low high all fits = absurd (no_number n fits)
mode_put (suc (suc zero)) r size k n w tail g h low high all fits = absurd (no_number n fits)
mode_put (suc (suc (suc zero))) r size k n w tail g h low high all fits = absurd (no_number n fits)
mode_put (suc (suc (suc (suc zero)))) r size k n w tail g h low high all fits = absurd (no_number n fits)
mode_put (suc (suc (suc (suc (suc zero))))) r size k n w tail g h low high all fits =
    let o = one_word k n w tail low (omega arith) (below n 65536 fits) all in record { rest = following (one k n (w ∷ tail)); put = o.put; is = rw o.at refl }
mode_put (suc (suc (suc (suc (suc (suc zero)))))) r size k n w tail g h low high all fits =
    let x = slice_index (w ∷ tail) k in
    let b = below n 256 fits in
    let o = one_word k (x / 256 * 256 + n) w tail low (omega arith) (brief_fits x n (all k) b) all in
    record { rest = following (one k (x / 256 * 256 + n) (w ∷ tail)); put = o.put; is = rw (o.at, brief_index x n b, brief_long x n b, brief_by x n b) refl }
mode_put (suc (suc (suc (suc (suc (suc (suc zero))))))) zero size k n w tail g h low high all fits =
    let o = one_word k n w tail low (omega arith) (below n 65536 fits) all in record { rest = following (one k n (w ∷ tail)); put = o.put; is = rw o.at refl }
mode_put (suc (suc (suc (suc (suc (suc (suc zero))))))) (suc zero) size k n w tail g h low high all fits =
    let o = number_put Long k n w tail low high (below n 4294967296 fits) all in record { rest = o.rest; put = o.put; is = rw o.is refl }
mode_put (suc (suc (suc (suc (suc (suc (suc zero))))))) (suc (suc zero)) size k n w tail g h low high all fits =
    let o = one_word k n w tail low (omega arith) (below n 65536 fits) all in record { rest = following (one k n (w ∷ tail)); put = o.put; is = rw o.at refl }
mode_put (suc (suc (suc (suc (suc (suc (suc zero))))))) (suc (suc (suc zero))) size k n w tail g h low high all fits =
    let x = slice_index (w ∷ tail) k in
    let b = below n 256 fits in
    let o = one_word k (x / 256 * 256 + n) w tail low (omega arith) (brief_fits x n (all k) b) all in
    record { rest = following (one k (x / 256 * 256 + n) (w ∷ tail)); put = o.put; is = rw (o.at, brief_index x n b, brief_long x n b, brief_by x n b) refl }
mode_put (suc (suc (suc (suc (suc (suc (suc zero))))))) (suc (suc (suc (suc zero)))) size k n w tail g h low high all fits =
    let o = number_put size k n w tail low high (below n (modulus_of size) fits) all in record { rest = o.rest; put = o.put; is = rw o.is refl }
mode_put (suc (suc (suc (suc (suc (suc (suc zero))))))) (suc (suc (suc (suc (suc zero))))) size k n w tail g h low high all fits =
    let o = number_put size k n w tail low high (below n (modulus_of size) fits) all in record { rest = o.rest; put = o.put; is = rw o.is refl }
mode_put (suc (suc (suc (suc (suc (suc (suc zero))))))) (suc (suc (suc (suc (suc (suc zero)))))) size k n w tail g h low high all fits =
    let o = number_put size k n w tail low high (below n (modulus_of size) fits) all in record { rest = o.rest; put = o.put; is = rw o.is refl }
mode_put (suc (suc (suc (suc (suc (suc (suc zero))))))) (suc (suc (suc (suc (suc (suc (suc zero))))))) size k n w tail g h low high all fits =
    let o = number_put size k n w tail low high (below n (modulus_of size) fits) all in record { rest = o.rest; put = o.put; is = rw o.is refl }
mode_put (suc (suc (suc (suc (suc (suc (suc zero))))))) (suc (suc (suc (suc (suc (suc (suc (suc r)))))))) size k n w tail g h low high all fits = absurd (omega arith)
mode_put (suc (suc (suc (suc (suc (suc (suc (suc m)))))))) r size k n w tail g h low high all fits = absurd (omega arith)

mode_same : (m r : ℕ) (size : Size) (k : ℕ) (words others : List ℕ) → m < 8 → r < 8 → AreSame k (words_of_mode size (mode_of m r size k others)) words others
    → mode_of m r size k words ≡ mode_of m r size k others
unfolding mode_of
mode_same zero r size k words others g h same = refl
mode_same (suc zero) r size k words others g h same = refl
mode_same (suc (suc zero)) r size k words others g h same = refl
mode_same (suc (suc (suc zero))) r size k words others g h same = refl
mode_same (suc (suc (suc (suc zero)))) r size k words others g h same = refl
mode_same (suc (suc (suc (suc (suc zero))))) r size k words others g h same = rw (same k (omega arith) (omega arith)) refl
mode_same (suc (suc (suc (suc (suc (suc zero)))))) r size k words others g h same = rw (same k (omega arith) (omega arith)) refl
mode_same (suc (suc (suc (suc (suc (suc (suc zero))))))) zero size k words others g h same = rw (same k (omega arith) (omega arith)) refl
mode_same (suc (suc (suc (suc (suc (suc (suc zero))))))) (suc zero) size k words others g h same = rw (number_same Long k words others same) refl
mode_same (suc (suc (suc (suc (suc (suc (suc zero))))))) (suc (suc zero)) size k words others g h same = rw (same k (omega arith) (omega arith)) refl
mode_same (suc (suc (suc (suc (suc (suc (suc zero))))))) (suc (suc (suc zero))) size k words others g h same = rw (same k (omega arith) (omega arith)) refl
mode_same (suc (suc (suc (suc (suc (suc (suc zero))))))) (suc (suc (suc (suc zero)))) size k words others g h same = rw (number_same size k words others same) refl
mode_same (suc (suc (suc (suc (suc (suc (suc zero))))))) (suc (suc (suc (suc (suc zero))))) size k words others g h same = rw (number_same size k words others same) refl
mode_same (suc (suc (suc (suc (suc (suc (suc zero))))))) (suc (suc (suc (suc (suc (suc zero)))))) size k words others g h same = rw (number_same size k words others same) refl
mode_same (suc (suc (suc (suc (suc (suc (suc zero))))))) (suc (suc (suc (suc (suc (suc (suc zero))))))) size k words others g h same = rw (number_same size k words others same) refl
mode_same (suc (suc (suc (suc (suc (suc (suc zero))))))) (suc (suc (suc (suc (suc (suc (suc (suc r)))))))) size k words others g h same = absurd (omega arith)
mode_same (suc (suc (suc (suc (suc (suc (suc (suc m)))))))) r size k words others g h same = absurd (omega arith)

-- ---- the two modes of a first word

pub record IsLow (size : Size) (k n w : ℕ) (tail : List ℕ) : Type 0 where
  pub rest : List ℕ
  pub put : IsPut k (words_of_mode size (low_mode size k (w ∷ tail))) w tail rest
  pub is : low_mode size k (w ∷ rest) ≡ mode_with n (low_mode size k (w ∷ tail))

pub low_put : (size : Size) (k n w : ℕ) (tail : List ℕ) → 1 ≤ k → k < 4 → AreWords (w ∷ tail) → nat_lt n (mode_limit size (low_mode size k (w ∷ tail))) ≡ true → IsLow size k n w tail
unfolding low_mode
low_put size k n w tail low high all fits =
    let o = mode_put (w / 8 % 8) (w % 8) size k n w tail (omega arith) (omega arith) low high all fits in record { rest = o.rest; put = o.put; is = o.is }

pub record IsHigh (size : Size) (k n w : ℕ) (tail : List ℕ) : Type 0 where
  pub rest : List ℕ
  pub put : IsPut k (words_of_mode size (high_mode size k (w ∷ tail))) w tail rest
  pub is : high_mode size k (w ∷ rest) ≡ mode_with n (high_mode size k (w ∷ tail))

pub high_put : (size : Size) (k n w : ℕ) (tail : List ℕ) → 1 ≤ k → k < 4 → AreWords (w ∷ tail) → nat_lt n (mode_limit size (high_mode size k (w ∷ tail))) ≡ true → IsHigh size k n w tail
unfolding high_mode
high_put size k n w tail low high all fits =
    let o = mode_put (w / 64 % 8) (w / 512 % 8) size k n w tail (omega arith) (omega arith) low high all fits in record { rest = o.rest; put = o.put; is = o.is }

pub low_same : (size : Size) (k w : ℕ) (rest tail : List ℕ) → AreSame k (words_of_mode size (low_mode size k (w ∷ tail))) (w ∷ rest) (w ∷ tail) → low_mode size k (w ∷ rest) ≡ low_mode size k (w ∷ tail)
unfolding low_mode
low_same size k w rest tail same = mode_same (w / 8 % 8) (w % 8) size k (w ∷ rest) (w ∷ tail) (omega arith) (omega arith) same

pub high_same : (size : Size) (k w : ℕ) (rest tail : List ℕ) → AreSame k (words_of_mode size (high_mode size k (w ∷ tail))) (w ∷ rest) (w ∷ tail) → high_mode size k (w ∷ rest) ≡ high_mode size k (w ∷ tail)
unfolding high_mode
high_same size k w rest tail same = mode_same (w / 64 % 8) (w / 512 % 8) size k (w ∷ rest) (w ∷ tail) (omega arith) (omega arith) same

pub number_few : (size : Size) → words_of_number size ≤ 2
number_few Byte = omega arith
number_few Word = omega arith
number_few Long = omega arith

pub mode_few : (size : Size) (mode : Mode) → words_of_mode size mode ≤ 2
mode_few size (modes.Immediate n) = number_few size
mode_few size (modes.Data n) = omega arith
mode_few size _ = omega arith

pub with_counted : (n : ℕ) (size : Size) (mode : Mode) → words_of_mode size (mode_with n mode) ≡ words_of_mode size mode
with_counted n size (modes.Data r) = refl
with_counted n size _ = refl

-- what follows, and at the start
pub same_after : (k count from more w : ℕ) (tail rest : List ℕ) → IsPut k count w tail rest → k + count ≤ from → from + more ≤ 5 → AreSame from more (w ∷ rest) (w ∷ tail)
same_after k count from more w tail rest put high few = λ j a b. put.after j (omega (arith, a, high)) (omega (arith, b, few))

pub same_front : (k count from more w : ℕ) (tail rest : List ℕ) → IsPut k count w tail rest → 1 ≤ from → from + more ≤ k → AreSame from more (w ∷ rest) (w ∷ tail)
same_front k count from more w tail rest put low high = λ j a b. put.before j (omega (arith, a, low)) (omega (arith, b, high))
