-- What the definitions compute to, an equation for each case.
use Rattle.std.specs.Prelude.{◌≡◌, ◌≢◌, ℕ, zero, suc, ◌+◌, ◌<◌, Bool, true, false, cond, ◌==◌, ◌⊎◌, [], ◌∷◌, ◌++◌, refl}
use Rattle.std.proofs.Common.{sym, ◌∙◌, ap, inl, inr, arith}
use Rattle.std.proofs.lemmas.Bool.Decides.{nat_tests}
use Rattle.md_word.specs.declared.key.Key.{Key}
use Rattle.md_word.specs.Keys.{key_lt}
use Rattle.chip_core.specs.Chips.{Rules}
use Rattle.chip_core.specs.Limits.{total}
use Rattle.chip_core.specs.Machines.{Machine, put, least_below, is_sample, accessed, move, entries, mover, run, journal, made}

-- a case on a test
pub by_test : {P : Type 0} (b : Bool) → (b ≡ true → P) → (b ≡ false → P) → P
by_test true p q = p refl
by_test false p q = q refl

-- two numbers are equal or not
pub same_or : (i k : ℕ) → (i ≡ k) ⊎ (i ≢ k)
same_or i k = by_test (i == k) (λ e. inl (grind (arith, nat_tests))) (λ e. inr (grind (arith, nat_tests)))

-- the index that is set has the new value
pub put-same : {X : Type 0} (f : ℕ → X) (i : ℕ) (x : X) → put f i x i ≡ x
unfolding put
put-same f i x = let e : (i == i) ≡ true = grind (arith, nat_tests) in ap (λ b. cond b x (f i)) e

-- every other index keeps its value
pub put-other : {X : Type 0} (f : ℕ → X) (i : ℕ) (x : X) (k : ℕ) → k ≢ i → put f i x k ≡ f k
unfolding put
put-other f i x k ne = let e : (k == i) ≡ false = grind (arith, nat_tests) in ap (λ b. cond b x (f k)) e

-- the least of several keys

-- one key more: the last is least where it is below the least of those before it
pub least-suc : (key : ℕ → Key) (n : ℕ) → least_below key (suc n) ≡ cond (key_lt (key n) (key (least_below key n))) n (least_below key n)
unfolding least_below
least-suc key n = refl

-- the last key is least where it is below the others
pub least-true : (key : ℕ → Key) (n : ℕ) → key_lt (key n) (key (least_below key n)) ≡ true → least_below key (suc n) ≡ n
least-true key n e = least-suc key n ∙ ap (λ b. cond b n (least_below key n)) e

-- else the least of those before it stays
pub least-false : (key : ℕ → Key) (n : ℕ) → key_lt (key n) (key (least_below key n)) ≡ false → least_below key (suc n) ≡ least_below key n
least-false key n e = least-suc key n ∙ ap (λ b. cond b n (least_below key n)) e

-- it is 0 where there are no keys, and for the least of one
pub least-zero : (key : ℕ → Key) → least_below key 0 ≡ 0
unfolding least_below
least-zero key = refl

-- the least of one or more keys is one of them
pub least-in : (key : ℕ → Key) (n : ℕ) → least_below key (suc n) < suc n
least-in key zero = by_test (key_lt (key 0) (key (least_below key 0))) (λ e. let w = least-true key 0 e in omega arith) (λ e. let w = least-false key 0 e in let z = least-zero key in omega arith)
least-in key (suc n) =
    let h = least-in key n in
    by_test (key_lt (key (suc n)) (key (least_below key (suc n)))) (λ e. let w = least-true key (suc n) e in omega arith) (λ e. let w = least-false key (suc n) e in omega arith)

-- the chooser looks at the keys below n alone
pub least-same : (key other : ℕ → Key) (n : ℕ) → ((i : ℕ) → i < n → key i ≡ other i) → least_below key n ≡ least_below other n
least-same key other zero same = least-zero key ∙ sym (least-zero other)
least-same key other (suc zero) same =
    let a = least-in key 0 in
    let b = least-in other 0 in
    omega arith
least-same key other (suc (suc n)) same =
    let e = least-same key other (suc n) (λ i h. same i (omega arith)) in
    let lt = least-in key n in
    let here = same (suc n) (omega arith) in
    let there = same (least_below key (suc n)) (omega arith) ∙ ap other e in
    least-suc key (suc n)
    ∙ ap (λ k. cond (key_lt k (key (least_below key (suc n)))) (suc n) (least_below key (suc n))) here
    ∙ ap (λ k. cond (key_lt (other (suc n)) k) (suc n) (least_below key (suc n))) there
    ∙ ap (λ m. cond (key_lt (other (suc n)) (other (least_below other (suc n)))) (suc n) m) e
    ∙ sym (least-suc other (suc n))

-- a sum of one term more ends in that term
pub total-suc : (n : ℕ) (f : ℕ → ℕ) → total (suc n) f ≡ total n f + f n
unfolding total
total-suc n f = refl

-- a sum of no terms is 0
pub total-zero : (f : ℕ → ℕ) → total 0 f ≡ 0
unfolding total
total-zero f = refl

-- one move

module _ {Chip Shared Pins : Type 0} (rules : Rules Chip Shared Pins) where
  -- a sample changes its chip alone, by the pins that the shared state shows
  pub move-sample : (m : Machine Chip Shared) (i : ℕ) → is_sample rules m i ≡ true
      → move rules m i ≡ record { shared = m.shared; chip = put m.chip i (rules.sample (m.chip i) (rules.pins m.shared i)) }
  unfolding move
  move-sample m i e =
      ap (λ b. cond b (record { shared = m.shared; chip = put m.chip i (rules.sample (m.chip i) (rules.pins m.shared i)) })
      (record { shared = (accessed rules m i).shared; chip = put m.chip i (rules.advance (accessed rules m i).chip) })) e

  -- an access leaves the shared state that its locked part gave, and its chip after the private work
  pub move-access : (m : Machine Chip Shared) (i : ℕ) → is_sample rules m i ≡ false
      → move rules m i ≡ record { shared = (accessed rules m i).shared; chip = put m.chip i (rules.advance (accessed rules m i).chip) }
  unfolding move
  move-access m i e =
      ap (λ b. cond b (record { shared = m.shared; chip = put m.chip i (rules.sample (m.chip i) (rules.pins m.shared i)) })
      (record { shared = (accessed rules m i).shared; chip = put m.chip i (rules.advance (accessed rules m i).chip) })) e

  -- a sample gives no entry
  pub entries-sample : (m : Machine Chip Shared) (i : ℕ) → is_sample rules m i ≡ true → entries rules m i ≡ []
  unfolding entries
  entries-sample m i e = ap (λ b. cond b [] ((accessed rules m i).entry ∷ [])) e

  -- an access gives one entry
  pub entries-access : (m : Machine Chip Shared) (i : ℕ) → is_sample rules m i ≡ false → entries rules m i ≡ (accessed rules m i).entry ∷ []
  unfolding entries
  entries-access m i e = ap (λ b. cond b [] ((accessed rules m i).entry ∷ [])) e

  -- the chip that moves, after a sample
  pub chip-sample : (m : Machine Chip Shared) (i : ℕ) → is_sample rules m i ≡ true → (move rules m i).chip i ≡ rules.sample (m.chip i) (rules.pins m.shared i)
  chip-sample m i e = ap (λ (w : Machine Chip Shared). w.chip i) (move-sample m i e) ∙ put-same m.chip i (rules.sample (m.chip i) (rules.pins m.shared i))

  -- the chip that moves, after an access
  pub chip-access : (m : Machine Chip Shared) (i : ℕ) → is_sample rules m i ≡ false → (move rules m i).chip i ≡ rules.advance (accessed rules m i).chip
  chip-access m i e = ap (λ (w : Machine Chip Shared). w.chip i) (move-access m i e) ∙ put-same m.chip i (rules.advance (accessed rules m i).chip)

  -- a sample leaves the shared state
  pub shared-sample : (m : Machine Chip Shared) (i : ℕ) → is_sample rules m i ≡ true → (move rules m i).shared ≡ m.shared
  shared-sample m i e = ap (λ (w : Machine Chip Shared). w.shared) (move-sample m i e)

  -- an access leaves the shared state that its locked part gave
  pub shared-access : (m : Machine Chip Shared) (i : ℕ) → is_sample rules m i ≡ false → (move rules m i).shared ≡ (accessed rules m i).shared
  shared-access m i e = ap (λ (w : Machine Chip Shared). w.shared) (move-access m i e)

  -- the other chips stay
  pub chip-other : (m : Machine Chip Shared) (i k : ℕ) → k ≢ i → (move rules m i).chip k ≡ m.chip k
  chip-other m i k ne =
      by_test (is_sample rules m i)
      (λ e. ap (λ (w : Machine Chip Shared). w.chip k) (move-sample m i e) ∙ put-other m.chip i (rules.sample (m.chip i) (rules.pins m.shared i)) k ne)
      (λ e. ap (λ (w : Machine Chip Shared). w.chip k) (move-access m i e) ∙ put-other m.chip i (rules.advance (accessed rules m i).chip) k ne)

-- the stages of a run

module _ {Chip Shared Pins : Type 0} (rules : Rules Chip Shared Pins) (base : Machine Chip Shared) where
  -- no moves on, the machine is as it was
  pub run-zero : run rules base 0 ≡ base
  unfolding run
  run-zero = refl

  -- one move more is made by the chip of least key
  pub run-suc : (n : ℕ) → run rules base (suc n) ≡ move rules (run rules base n) (mover rules (run rules base n))
  unfolding run
  run-suc n = refl

  -- no moves give no entries
  pub journal-zero : journal rules base 0 ≡ []
  unfolding journal
  journal-zero = refl

  -- one move more gives its entries after the others
  pub journal-suc : (n : ℕ) → journal rules base (suc n) ≡ journal rules base n ++ entries rules (run rules base n) (mover rules (run rules base n))
  unfolding journal
  journal-suc n = refl

  -- of no moves a chip made none
  pub made-zero : (i : ℕ) → made rules base i 0 ≡ 0
  unfolding made
  made-zero i = refl

  -- one move more counts for the chip that makes it
  pub made-suc : (i n : ℕ) → made rules base i (suc n) ≡ made rules base i n + cond (mover rules (run rules base n) == i) 1 0
  unfolding made
  made-suc i n = refl

  -- the mover has made one move more
  pub made-mover : (i n : ℕ) → mover rules (run rules base n) ≡ i → made rules base i (suc n) ≡ made rules base i n + 1
  made-mover i n e =
      let test : (mover rules (run rules base n) == i) ≡ true = grind (arith, nat_tests) in
      made-suc i n ∙ ap (λ b. made rules base i n + cond b 1 0) test

  -- the others have made as many as before
  pub made-other : (i n : ℕ) → mover rules (run rules base n) ≢ i → made rules base i (suc n) ≡ made rules base i n
  made-other i n ne =
      let test : (mover rules (run rules base n) == i) ≡ false = grind (arith, nat_tests) in
      made-suc i n ∙ ap (λ b. made rules base i n + cond b 1 0) test ∙ (omega arith)
