-- The stages of a run: how keys rise, what each chip has done, and that a chip whose key lies below
-- the end reaches its move.
use Rattle.std.proofs.Common.{◌≡◌, ◌≢◌, ℕ, zero, suc, ◌+◌, ◌-◌, ◌/◌, ◌<◌, ◌≤◌, true, false, cond, ◌==◌, refl, sym, ◌∙◌, ap, subst, arith, ◌⊎◌, inl, inr, List, [], ◌∷◌, ◌++◌, length, append-nil, length-append, All, nat_lt}
use Rattle.std.proofs.lemmas.Bool.Decides.{nat_tests}
use Rattle.std.proofs.lemmas.List.Elements.{filter-append, All-nil, All-cons, All-head, All-tail}
use Rattle.md_word.specs.Clock.{cycle_limit}
use Rattle.md_word.specs.declared.event.Entry.{Entry}
use Rattle.md_word.specs.declared.key.Key.{Key}
use Rattle.chip_core.specs.Chips.{Rules, Lawful}
use Rattle.chip_core.specs.Machines.{Machine, of_chip, key_of, is_sample, accessed, move, entries, mover, run, journal, made, move_key, AllBelow, IsValid}
use Rattle.chip_core.specs.Limits.{moves_left, all_moves_left}
use Rattle.chip_core.proofs.Keys.{rank, by_test, same_or, le_or, div-falls, total-falls}
use Rattle.chip_core.proofs.Stages.{chip-other, shared-sample, shared-access, entries-sample, entries-access, due, key-rises, valid-move, number-small, entries-own, entries-other, mover-in, mover-least}
pub use Rattle.chip_core.specs.Equations.{run-zero, run-suc, journal-zero, journal-suc, made-zero, made-suc, made-mover, made-other}

All-left : {X : Type 0} (P : X → Type 0) (xs ys : List X) → All P (xs ++ ys) → All P xs
All-left P [] ys h = All-nil P
All-left P (x ∷ xs) ys h = All-cons P x xs (All-head P x (xs ++ ys) h) (All-left P xs ys (All-tail P x (xs ++ ys) h))

All-right : {X : Type 0} (P : X → Type 0) (xs ys : List X) → All P (xs ++ ys) → All P ys
All-right P [] ys h = h
All-right P (x ∷ xs) ys h = All-right P xs ys (All-tail P x (xs ++ ys) h)

module _ {Chip Shared Pins : Type 0} (rules : Rules Chip Shared Pins) (base : Machine Chip Shared) where
  pub below-less : (t k n : ℕ) → AllBelow rules base t n → k ≤ n → AllBelow rules base t k
  below-less t k n below h = record { each = λ j q. below.each j (omega arith) }

  pub below-suc : (t n : ℕ) → AllBelow rules base t n → (move_key rules base n).cycle < t → AllBelow rules base t (suc n)
  below-suc t n below last = record { each = λ j q. go j q (same_or j n) }
    where
      go : (j : ℕ) → j < suc n → (j ≡ n) ⊎ (j ≢ n) → (move_key rules base j).cycle < t
      go j q (inl e) = subst (λ k. (move_key rules base k).cycle < t) (sym e) last
      go j q (inr ne) = below.each j (omega arith)

  -- an induction from a stage on
  pub climb : (P : ℕ → Type 0) (a : ℕ) → P a → ((n : ℕ) → a ≤ n → P n → P (suc n)) → (k : ℕ) → a ≤ k → P k
  climb P a start step zero h = let e : a ≡ 0 = omega arith in subst P e start
  climb P a start step (suc k) h = go (same_or a (suc k)) (λ q. climb P a start step k q)
    where
      go : (a ≡ suc k) ⊎ (a ≢ suc k) → (a ≤ k → P k) → P (suc k)
      go (inl e) rest = subst P e start
      go (inr ne) rest = let q : a ≤ k = omega arith in step k q (rest q)

  pub made-mono : (i n k : ℕ) → n ≤ k → made rules base i n ≤ made rules base i k
  made-mono i n k h =
      climb (λ j. made rules base i n ≤ made rules base i j) n (omega arith)
      (λ j q ih. omega (arith, made-suc rules base i j)) k h

  -- where a chip makes no move it stays
  pub chip-stays : (i n k : ℕ) → n ≤ k → made rules base i k ≡ made rules base i n → (run rules base k).chip i ≡ (run rules base n).chip i
  chip-stays i n k h e =
      climb (λ j. made rules base i j ≡ made rules base i n → (run rules base j).chip i ≡ (run rules base n).chip i) n (λ _. refl)
      (λ j q ih same. go j q ih same (same_or (mover rules (run rules base j)) i)) k h e
    where
      go : (j : ℕ) → n ≤ j → (made rules base i j ≡ made rules base i n → (run rules base j).chip i ≡ (run rules base n).chip i)
          → made rules base i (suc j) ≡ made rules base i n → (mover rules (run rules base j) ≡ i) ⊎ (mover rules (run rules base j) ≢ i)
          → (run rules base (suc j)).chip i ≡ (run rules base n).chip i
      go j q ih same (inl at) = absurd (let more = made-mover rules base i j at in let mono = made-mono i n j q in omega arith)
      go j q ih same (inr ne) =
          let before : made rules base i j ≡ made rules base i n = sym (made-other rules base i j ne) ∙ same in
          ap (λ (w : Machine Chip Shared). w.chip i) (run-suc rules base j) ∙ chip-other rules (run rules base j) (mover rules (run rules base j)) i (λ w. ne (sym w)) ∙ ih before

  -- as many moves, the same chip
  pub chip-at : (i n k : ℕ) → made rules base i k ≡ made rules base i n → (run rules base k).chip i ≡ (run rules base n).chip i
  chip-at i n k e = go (le_or n k)
    where
      go : (n ≤ k) ⊎ (k ≤ n) → (run rules base k).chip i ≡ (run rules base n).chip i
      go (inl h) = chip-stays i n k h e
      go (inr h) = sym (chip-stays i k n h (sym e))

  pub own-suc : (i n : ℕ) → of_chip i (journal rules base (suc n)) ≡ of_chip i (journal rules base n) ++ of_chip i (entries rules (run rules base n) (mover rules (run rules base n)))
  own-suc i n = ap (of_chip i) (journal-suc rules base n) ∙ filter-append (λ (e : Entry). e.key.chip == i) (journal rules base n) (entries rules (run rules base n) (mover rules (run rules base n)))

  pub own-mono : (i n k : ℕ) → n ≤ k → length (of_chip i (journal rules base n)) ≤ length (of_chip i (journal rules base k))
  own-mono i n k h =
      climb (λ j. length (of_chip i (journal rules base n)) ≤ length (of_chip i (journal rules base j))) n (omega arith)
      (λ j q ih.
      let e = ap length (own-suc i j) ∙ length-append (of_chip i (journal rules base j)) (of_chip i (entries rules (run rules base j) (mover rules (run rules base j)))) in
      omega arith) k h

  -- a stretch of samples leaves shared state and journal
  pub shared-stretch : (a k : ℕ) → a ≤ k → ((n : ℕ) → a ≤ n → n < k → is_sample rules (run rules base n) (mover rules (run rules base n)) ≡ false → ⊥)
      → (run rules base k).shared ≡ (run rules base a).shared
  shared-stretch a k h none =
      climb (λ j. j ≤ k → (run rules base j).shared ≡ (run rules base a).shared) a (λ _. refl)
      (λ j q ih lt. by_test (is_sample rules (run rules base j) (mover rules (run rules base j)))
      (λ e. ap (λ (w : Machine Chip Shared). w.shared) (run-suc rules base j) ∙ shared-sample rules (run rules base j) (mover rules (run rules base j)) e ∙ ih (omega arith))
      (λ e. absurd (none j q lt e))) k h (omega arith)

  pub journal-stretch : (a k : ℕ) → a ≤ k → ((n : ℕ) → a ≤ n → n < k → is_sample rules (run rules base n) (mover rules (run rules base n)) ≡ false → ⊥)
      → journal rules base k ≡ journal rules base a
  journal-stretch a k h none =
      climb (λ j. j ≤ k → journal rules base j ≡ journal rules base a) a (λ _. refl)
      (λ j q ih lt. by_test (is_sample rules (run rules base j) (mover rules (run rules base j)))
      (λ e. journal-suc rules base j ∙ ap (λ es. journal rules base j ++ es) (entries-sample rules (run rules base j) (mover rules (run rules base j)) e) ∙ append-nil (journal rules base j) ∙ ih (omega arith))
      (λ e. absurd (none j q lt e))) k h (omega arith)

  -- what holds of each entry holds of the entry of each access
  pub entry-of-all : (P : Entry → Type 0) (k n : ℕ) → n < k → is_sample rules (run rules base n) (mover rules (run rules base n)) ≡ false
      → All P (journal rules base k) → P (accessed rules (run rules base n) (mover rules (run rules base n))).entry
  entry-of-all P k n h e =
      climb (λ j. All P (journal rules base j) → P (accessed rules (run rules base n) (mover rules (run rules base n))).entry) (suc n)
      (λ all.
      let here = subst (λ es. All P es) (journal-suc rules base n ∙ ap (λ es. journal rules base n ++ es) (entries-access rules (run rules base n) (mover rules (run rules base n)) e)) all in
      All-head P (accessed rules (run rules base n) (mover rules (run rules base n))).entry []
      (All-right P (journal rules base n) ((accessed rules (run rules base n) (mover rules (run rules base n))).entry ∷ []) here))
      (λ j q ih all. ih (All-left P (journal rules base j) (entries rules (run rules base j) (mover rules (run rules base j))) (subst (λ es. All P es) (journal-suc rules base j) all))) k h

module _ {Chip Shared Pins : Type 0} (rules : Rules Chip Shared Pins) (chip_ok : Chip → Type 0) (shared_ok : Shared → Type 0) (law : Lawful rules chip_ok shared_ok)
    (base : Machine Chip Shared) (base_ok : IsValid rules chip_ok shared_ok base) (t : ℕ) (small : t ≤ cycle_limit) where
  -- each stage below the end is valid
  pub run-valid : (n : ℕ) → AllBelow rules base t n → IsValid rules chip_ok shared_ok (run rules base n)
  run-valid zero below = subst (λ (m : Machine Chip Shared). IsValid rules chip_ok shared_ok m) (sym (run-zero rules base)) base_ok
  run-valid (suc n) below =
      let last = below.each n (omega arith) in
      subst (λ (m : Machine Chip Shared). IsValid rules chip_ok shared_ok m) (sym (run-suc rules base n))
      (valid-move rules chip_ok shared_ok law (run rules base n) (run-valid n (below-less rules base t n (suc n) below (omega arith)))
      (mover rules (run rules base n)) (mover-in rules chip_ok shared_ok law (run rules base n)) (omega arith))

  -- the key of a chip after the move of a stage
  pub key-step : (n : ℕ) → AllBelow rules base t (suc n) → (i : ℕ) → i < rules.count
      → ((mover rules (run rules base n) ≡ i) × ((key_of rules (run rules base n) i).cycle + rules.gap i ≤ (key_of rules (run rules base (suc n)) i).cycle))
      ⊎ ((mover rules (run rules base n) ≢ i) × (key_of rules (run rules base (suc n)) i ≡ key_of rules (run rules base n) i))
  key-step n below i h = go (same_or (mover rules (run rules base n)) i)
    where
      go : (mover rules (run rules base n) ≡ i) ⊎ (mover rules (run rules base n) ≢ i)
          → ((mover rules (run rules base n) ≡ i) × ((key_of rules (run rules base n) i).cycle + rules.gap i ≤ (key_of rules (run rules base (suc n)) i).cycle))
          ⊎ ((mover rules (run rules base n) ≢ i) × (key_of rules (run rules base (suc n)) i ≡ key_of rules (run rules base n) i))
      go (inl e) =
          let last = below.each n (omega arith) in
          let low : (key_of rules (run rules base n) i).cycle < cycle_limit = subst (λ k. (key_of rules (run rules base n) k).cycle < cycle_limit) e (omega arith) in
          inl (
            e,
            subst (λ (m : Machine Chip Shared). (key_of rules (run rules base n) i).cycle + rules.gap i ≤ (key_of rules m i).cycle)
                (ap (λ k. move rules (run rules base n) k) (sym e) ∙ sym (run-suc rules base n))
                (key-rises rules chip_ok shared_ok law (run rules base n) (run-valid n (below-less rules base t n (suc n) below (omega arith))) i h low),
          )
      go (inr ne) = inr (ne, ap (λ (c : Chip). (rules.next c).key) (ap (λ (w : Machine Chip Shared). w.chip i) (run-suc rules base n) ∙ chip-other rules (run rules base n) (mover rules (run rules base n)) i (λ w. ne (sym w))))

  pub key-mono : (i n k : ℕ) → i < rules.count → n ≤ k → AllBelow rules base t k → rank (key_of rules (run rules base n) i) ≤ rank (key_of rules (run rules base k) i)
  key-mono i n k h q =
      climb rules base (λ j. AllBelow rules base t j → rank (key_of rules (run rules base n) i) ≤ rank (key_of rules (run rules base j) i)) n (λ _. omega arith)
      (λ j r ih below. go j (ih (below-less rules base t j (suc j) below (omega arith))) below (key-step j below i h)) k q
    where
      go : (j : ℕ) → rank (key_of rules (run rules base n) i) ≤ rank (key_of rules (run rules base j) i) → AllBelow rules base t (suc j)
          → ((mover rules (run rules base j) ≡ i) × ((key_of rules (run rules base j) i).cycle + rules.gap i ≤ (key_of rules (run rules base (suc j)) i).cycle))
          ⊎ ((mover rules (run rules base j) ≢ i) × (key_of rules (run rules base (suc j)) i ≡ key_of rules (run rules base j) i))
          → rank (key_of rules (run rules base n) i) ≤ rank (key_of rules (run rules base (suc j)) i)
      go j ih below (inl p) =
          let some = law.gap_some i h in
          let before = (run-valid j (below-less rules base t j (suc j) below (omega arith))).number i h in
          let after = (run-valid (suc j) below).number i h in
          let rise = p.1 in
          omega arith
      go j ih below (inr p) = let e = ap rank p.1 in omega arith

  -- fewer moves, no greater key
  pub key-by-made : (i p n : ℕ) → i < rules.count → AllBelow rules base t p → AllBelow rules base t n → made rules base i p ≤ made rules base i n
      → rank (key_of rules (run rules base p) i) ≤ rank (key_of rules (run rules base n) i)
  key-by-made i p n h bp bn le = go (le_or p n)
    where
      go : (p ≤ n) ⊎ (n ≤ p) → rank (key_of rules (run rules base p) i) ≤ rank (key_of rules (run rules base n) i)
      go (inl q) = key-mono i p n h q bn
      go (inr q) =
          let mono = made-mono rules base i n p q in
          let e : made rules base i p ≡ made rules base i n = omega arith in
          let same = ap (λ (c : Chip). rank (rules.next c).key) (chip-at rules base i n p e) in
          omega arith

  pub mover-rank : (n : ℕ) → AllBelow rules base t n → (i : ℕ) → i < rules.count → rank (move_key rules base n) ≤ rank (key_of rules (run rules base n) i)
  mover-rank n below i h = mover-least rules chip_ok shared_ok law (run rules base n) (run-valid n below) i h

  -- the keys of the moves rise
  pub move_key-mono : (n k : ℕ) → n ≤ k → AllBelow rules base t k → rank (move_key rules base n) ≤ rank (move_key rules base k)
  move_key-mono n k h below =
      let who = mover rules (run rules base k) in
      let inside : who < rules.count = mover-in rules chip_ok shared_ok law (run rules base k) in
      let first = mover-rank n (below-less rules base t n k below h) who inside in
      let then_ = key-mono who n k inside h below in
      omega arith

  -- an entry more for an access, and none for another chip's move
  pub own-access : (i n : ℕ) → AllBelow rules base t (suc n) → mover rules (run rules base n) ≡ i → is_sample rules (run rules base n) (mover rules (run rules base n)) ≡ false
      → length (of_chip i (journal rules base (suc n))) ≡ length (of_chip i (journal rules base n)) + 1
  own-access i n below e access =
      let last = below.each n (omega arith) in
      let own = entries-own rules chip_ok shared_ok law (run rules base n) (run-valid n (below-less rules base t n (suc n) below (omega arith)))
      (mover rules (run rules base n)) (mover-in rules chip_ok shared_ok law (run rules base n)) (omega arith) access in
      let one : length (of_chip i (entries rules (run rules base n) (mover rules (run rules base n)))) ≡ 1
      = subst (λ k. length (of_chip k (entries rules (run rules base n) (mover rules (run rules base n)))) ≡ 1) e (ap length own) in
      let sum = ap length (own-suc rules base i n) ∙ length-append (of_chip i (journal rules base n)) (of_chip i (entries rules (run rules base n) (mover rules (run rules base n)))) in
      omega arith

  pub own-other : (i n : ℕ) → AllBelow rules base t (suc n) → mover rules (run rules base n) ≢ i → of_chip i (journal rules base (suc n)) ≡ of_chip i (journal rules base n)
  own-other i n below ne =
      let last = below.each n (omega arith) in
      own-suc rules base i n
      ∙ ap (λ es. of_chip i (journal rules base n) ++ es)
      (entries-other rules chip_ok shared_ok law (run rules base n) (run-valid n (below-less rules base t n (suc n) below (omega arith)))
      (mover rules (run rules base n)) i (mover-in rules chip_ok shared_ok law (run rules base n)) (omega arith) (λ w. ne (sym w)))
      ∙ append-nil (of_chip i (journal rules base n))

  pub own-stays : (i n k : ℕ) → n ≤ k → AllBelow rules base t k → made rules base i k ≡ made rules base i n → of_chip i (journal rules base k) ≡ of_chip i (journal rules base n)
  own-stays i n k h below e =
      climb rules base (λ j. AllBelow rules base t j → made rules base i j ≡ made rules base i n → of_chip i (journal rules base j) ≡ of_chip i (journal rules base n)) n (λ _ _. refl)
      (λ j q ih bj same. go j q (ih (below-less rules base t j (suc j) bj (omega arith))) bj same (same_or (mover rules (run rules base j)) i)) k h below e
    where
      go : (j : ℕ) → n ≤ j → (made rules base i j ≡ made rules base i n → of_chip i (journal rules base j) ≡ of_chip i (journal rules base n)) → AllBelow rules base t (suc j)
          → made rules base i (suc j) ≡ made rules base i n → (mover rules (run rules base j) ≡ i) ⊎ (mover rules (run rules base j) ≢ i)
          → of_chip i (journal rules base (suc j)) ≡ of_chip i (journal rules base n)
      go j q ih bj same (inl at) = absurd (let more = made-mover rules base i j at in let mono = made-mono rules base i n j q in omega arith)
      go j q ih bj same (inr ne) = own-other i j bj ne ∙ ih (sym (made-other rules base i j ne) ∙ same)

  -- as many moves, the same entries
  pub own-at : (i n k : ℕ) → AllBelow rules base t n → AllBelow rules base t k → made rules base i k ≡ made rules base i n → of_chip i (journal rules base k) ≡ of_chip i (journal rules base n)
  own-at i n k bn bk e = go (le_or n k)
    where
      go : (n ≤ k) ⊎ (k ≤ n) → of_chip i (journal rules base k) ≡ of_chip i (journal rules base n)
      go (inl h) = own-stays i n k h bk e
      go (inr h) = sym (own-stays i k n h bn (sym e))

  -- fewer moves, no more entries
  pub own-by-made : (i p n : ℕ) → AllBelow rules base t p → AllBelow rules base t n → made rules base i p ≤ made rules base i n
      → length (of_chip i (journal rules base p)) ≤ length (of_chip i (journal rules base n))
  own-by-made i p n bp bn le = go (le_or p n)
    where
      go : (p ≤ n) ⊎ (n ≤ p) → length (of_chip i (journal rules base p)) ≤ length (of_chip i (journal rules base n))
      go (inl q) = own-mono rules base i p n q
      go (inr q) =
          let mono = made-mono rules base i n p q in
          let e : made rules base i p ≡ made rules base i n = omega arith in
          let same = ap length (own-at i n p bn bp e) in
          omega arith

  -- a stretch without an access of a writer of chip i's pins leaves them
  pub pins-stretch : (i a k : ℕ) → a ≤ k → AllBelow rules base t k
      → ((n : ℕ) → a ≤ n → n < k → is_sample rules (run rules base n) (mover rules (run rules base n)) ≡ false → rules.writes (mover rules (run rules base n)) i ≡ false)
      → rules.pins (run rules base k).shared i ≡ rules.pins (run rules base a).shared i
  pins-stretch i a k h below none =
      climb rules base (λ j. j ≤ k → rules.pins (run rules base j).shared i ≡ rules.pins (run rules base a).shared i) a (λ _. refl)
      (λ j q ih lt.
      let here = ap (λ (w : Machine Chip Shared). rules.pins w.shared i) (run-suc rules base j) in
      by_test (is_sample rules (run rules base j) (mover rules (run rules base j)))
      (λ e. here ∙ ap (λ s. rules.pins s i) (shared-sample rules (run rules base j) (mover rules (run rules base j)) e) ∙ ih (omega arith))
      (λ e.
      let last = below.each j lt in
      here ∙ ap (λ s. rules.pins s i) (shared-access rules (run rules base j) (mover rules (run rules base j)) e)
      ∙ law.leaves ((run rules base j).chip (mover rules (run rules base j))) (run rules base j).shared (mover rules (run rules base j)) i
      (due rules chip_ok shared_ok law (run rules base j) (run-valid j (below-less rules base t j k below (omega arith))) (mover rules (run rules base j))
      (mover-in rules chip_ok shared_ok law (run rules base j)) (omega arith) false e)
      (none j q lt e)
      ∙ ih (omega arith))) k h (omega arith)

  -- the moves that are left fall

  pub moves_left-falls : (m w : Machine Chip Shared) (i : ℕ) → i < rules.count → (key_of rules m i).cycle < t → (key_of rules m i).cycle + rules.gap i ≤ (key_of rules w i).cycle
      → moves_left rules t w i + 1 ≤ moves_left rules t m i
  moves_left-falls m w i h below later = go (key_of rules m i).cycle (key_of rules w i).cycle (law.gap_some i h) below later
    where
      go : (c d : ℕ) → 1 ≤ rules.gap i → c < t → c + rules.gap i ≤ d → cond (nat_lt d t) ((t - d) / rules.gap i + 1) 0 + 1 ≤ cond (nat_lt c t) ((t - c) / rules.gap i + 1) 0
      go c d some low rise =
          let first : nat_lt c t ≡ true = grind (arith, nat_tests) in
          subst (λ b. cond (nat_lt d t) ((t - d) / rules.gap i + 1) 0 + 1 ≤ cond b ((t - c) / rules.gap i + 1) 0) (sym first)
          (by_test (nat_lt d t)
          (λ e.
          let inside : d < t = grind (arith, nat_tests) in
          let fall = div-falls (t - c) (t - d) (rules.gap i) some (omega arith) in
          subst (λ b. cond b ((t - d) / rules.gap i + 1) 0 + 1 ≤ (t - c) / rules.gap i + 1) (sym e) (omega arith))
          (λ e. subst (λ b. cond b ((t - d) / rules.gap i + 1) 0 + 1 ≤ (t - c) / rules.gap i + 1) (sym e) (omega arith)))

  pub all_moves_left-falls : (n : ℕ) → AllBelow rules base t (suc n) → all_moves_left rules t (run rules base (suc n)) + 1 ≤ all_moves_left rules t (run rules base n)
  all_moves_left-falls n below =
      let who = mover rules (run rules base n) in
      let inside : who < rules.count = mover-in rules chip_ok shared_ok law (run rules base n) in
      total-falls rules.count (moves_left rules t (run rules base (suc n))) (moves_left rules t (run rules base n)) who 1 inside
      (moves_left-falls (run rules base n) (run rules base (suc n)) who inside (below.each n (omega arith)) (mover_rises (key-step n below who inside)))
      (λ k q ne. others k ne (key-step n below k q))
    where
      mover_rises : ((mover rules (run rules base n) ≡ mover rules (run rules base n)) × ((move_key rules base n).cycle + rules.gap (mover rules (run rules base n)) ≤ (key_of rules (run rules base (suc n)) (mover rules (run rules base n))).cycle))
          ⊎ ((mover rules (run rules base n) ≢ mover rules (run rules base n)) × (key_of rules (run rules base (suc n)) (mover rules (run rules base n)) ≡ move_key rules base n))
          → (move_key rules base n).cycle + rules.gap (mover rules (run rules base n)) ≤ (key_of rules (run rules base (suc n)) (mover rules (run rules base n))).cycle
      mover_rises (inl p) = p.1
      mover_rises (inr p) = absurd (p.0 refl)

      others : (k : ℕ) → k ≢ mover rules (run rules base n)
          → ((mover rules (run rules base n) ≡ k) × ((key_of rules (run rules base n) k).cycle + rules.gap k ≤ (key_of rules (run rules base (suc n)) k).cycle))
          ⊎ ((mover rules (run rules base n) ≢ k) × (key_of rules (run rules base (suc n)) k ≡ key_of rules (run rules base n) k))
          → moves_left rules t (run rules base (suc n)) k ≤ moves_left rules t (run rules base n) k
      others k ne (inl p) = absurd (ne (sym p.0))
      others k ne (inr p) =
          let e = ap (λ (w : Key). cond (nat_lt w.cycle t) ((t - w.cycle) / rules.gap k + 1) 0) p.1 in
          omega arith

  -- a chip whose key lies below the end reaches its next move
  pub record NextMove (i n : ℕ) : Type 0 where
    pub stage : ℕ
    pub below : AllBelow rules base t (suc stage)
    pub mover : mover rules (run rules base stage) ≡ i
    pub made : made rules base i stage ≡ n

  -- below a key below the end no move lies past it
  pub move-below : (p i : ℕ) → i < rules.count → AllBelow rules base t p → (key_of rules (run rules base p) i).cycle < t → (move_key rules base p).cycle < t
  move-below p i h below low =
      let order = mover-rank p below i h in
      let chip = number-small rules chip_ok shared_ok law (run rules base p) (run-valid p below) i h in
      omega arith

  reach : (fuel p i n : ℕ) → i < rules.count → AllBelow rules base t p → made rules base i p ≡ n → (key_of rules (run rules base p) i).cycle < t
      → all_moves_left rules t (run rules base p) ≤ fuel → NextMove i n
  reach zero p i n h below e low enough =
      let more = below-suc rules base t p below (move-below p i h below low) in
      absurd (let fall = all_moves_left-falls p more in omega arith)
  reach (suc fuel) p i n h below e low enough =
      go more (same_or (mover rules (run rules base p)) i)
      (λ ne.
      let same : made rules base i (suc p) ≡ made rules base i p = made-other rules base i p ne in
      let chip = chip-at rules base i p (suc p) same in
      reach fuel (suc p) i n h more (same ∙ e) (subst (λ (c : Chip). (rules.next c).key.cycle < t) (sym chip) low) (let fall = all_moves_left-falls p more in omega arith))
    where
      more : AllBelow rules base t (suc p)
      more = below-suc rules base t p below (move-below p i h below low)

      go : AllBelow rules base t (suc p) → (mover rules (run rules base p) ≡ i) ⊎ (mover rules (run rules base p) ≢ i) → (mover rules (run rules base p) ≢ i → NextMove i n) → NextMove i n
      go b (inl at) rest = record { stage = p; below = b; mover = at; made = e }
      go b (inr ne) rest = rest ne

  pub next_move : (p i n : ℕ) → i < rules.count → AllBelow rules base t p → made rules base i p ≡ n → (key_of rules (run rules base p) i).cycle < t → NextMove i n
  next_move p i n h below e low = reach (all_moves_left rules t (run rules base p)) p i n h below e low (omega arith)
