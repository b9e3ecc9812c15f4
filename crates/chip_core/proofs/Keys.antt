-- The order of keys as an order of numbers, the least of several keys, and sums over numbers.
use Rattle.std.proofs.Common.{◌≡◌, ◌≢◌, ℕ, zero, suc, ◌+◌, ◌*◌, ◌/◌, ◌<◌, ◌≤◌, true, false, sym, ◌∙◌, ap, subst, arith, ◌⊎◌, inl, inr, le-div_iff_mul-le, div-mul-le_self}
use Rattle.std.proofs.lemmas.Bool.Decides.{nat_tests}
use Rattle.md_word.specs.declared.key.Key.{Key}
use Rattle.md_word.specs.Keys.{key_lt}
use Rattle.chip_core.specs.Machines.{put, least_below}
use Rattle.chip_core.specs.Limits.{total}
pub use Rattle.chip_core.specs.Equations.{by_test, same_or, put-same, put-other, least-suc, least-true, least-false, least-zero, least-in, least-same, total-suc, total-zero}

-- the place of a key of a chip below 8
abbrev pub rank : Key → ℕ
rank k = 8 * k.cycle + k.chip

pub key_lt-rank : (a b : Key) → a.chip < 8 → b.chip < 8 → key_lt a b ≡ true → rank a < rank b
key_lt-rank a b p q h = grind (arith, nat_tests)

pub rank-key_lt : (a b : Key) → a.chip < 8 → b.chip < 8 → rank a < rank b → key_lt a b ≡ true
rank-key_lt a b p q h = grind (arith, nat_tests)

pub not_lt-rank : (a b : Key) → a.chip < 8 → b.chip < 8 → key_lt a b ≡ false → rank b ≤ rank a
not_lt-rank a b p q h = grind (arith, nat_tests)

pub rank-not_lt : (a b : Key) → a.chip < 8 → b.chip < 8 → rank b ≤ rank a → key_lt a b ≡ false
rank-not_lt a b p q h = grind (arith, nat_tests)

-- a key of an earlier cycle, and one of no earlier cycle and a greater number
pub earlier-key : (a b : Key) → a.cycle < b.cycle → key_lt a b ≡ true
earlier-key a b p = grind (arith, nat_tests)

pub later-key : (a b : Key) → b.cycle ≤ a.cycle → b.chip < a.chip → key_lt a b ≡ false
later-key a b p q = grind (arith, nat_tests)

-- a key below a bound that a third does not lie under, and the third
pub lt-through : (a b k : Key) → key_lt a b ≡ true → key_lt k b ≡ false → key_lt a k ≡ true
lt-through a b k p q = grind (arith, nat_tests)

pub lt-later : (a b k c : Key) → key_lt a b ≡ true → key_lt k b ≡ false → k.cycle < c.cycle → key_lt a c ≡ true
lt-later a b k c p q r = grind (arith, nat_tests)

-- a key that is not below another of another chip is above it
pub apart-lt : (a b : Key) → a.chip ≢ b.chip → key_lt a b ≡ false → key_lt b a ≡ true
apart-lt a b ne h = grind (arith, nat_tests)

pub not_lt-trans : (a b c : Key) → key_lt b a ≡ false → key_lt c b ≡ false → key_lt c a ≡ false
not_lt-trans a b c p q = grind (arith, nat_tests)

pub cycle-not_lt : (a b : Key) → a.chip ≡ b.chip → a.cycle ≤ b.cycle → key_lt b a ≡ false
cycle-not_lt a b same le = grind (arith, nat_tests)

pub start-later : (t : ℕ) (k : Key) → k.cycle < t → key_lt (record { cycle = t; chip = 0 }) k ≡ false
start-later t k low = grind (arith, nat_tests)

pub before-start : (t : ℕ) (k : Key) → key_lt k (record { cycle = t; chip = 0 }) ≡ true → k.cycle < t
before-start t k low = grind (arith, nat_tests)

pub not_lt-back : (a b : Key) → key_lt a b ≡ true → key_lt b a ≡ false
not_lt-back a b p = grind (arith, nat_tests)

-- the order of two numbers
pub le_or : (a b : ℕ) → (a ≤ b) ⊎ (b ≤ a)
le_or a b = grind arith

-- a claim on each place of a function holds after a place is replaced
pub put-each : {X : Type 0} (P : ℕ → X → Type 0) (f : ℕ → X) (i : ℕ) (x : X) (k : ℕ) → (k ≡ i → P i x) → (k ≢ i → P k (f k)) → P k (put f i x k)
put-each P f i x k here there = go (same_or k i)
  where
    go : (k ≡ i) ⊎ (k ≢ i) → P k (put f i x k)
    go (inl e) = subst (λ n. P n (put f i x n)) (sym e) (subst (λ y. P i y) (sym (put-same f i x)) (here e))
    go (inr ne) = subst (λ y. P k y) (sym (put-other f i x k ne)) (there ne)

-- no key is below the least
pub least-is : (key : ℕ → Key) (n : ℕ) → ((i : ℕ) → i < suc n → (key i).chip < 8) → (i : ℕ) → i < suc n → rank (key (least_below key (suc n))) ≤ rank (key i)
least-is key zero small i h =
    let lt = least-in key 0 in
    let e : least_below key 1 ≡ i = omega arith in
    subst (λ x. rank (key (least_below key 1)) ≤ rank (key x)) e (omega arith)
least-is key (suc n) small i h =
    let below = least-is key n (λ j q. small j (omega arith)) in
    let least : least_below key (suc n) < suc (suc n) = (let w = least-in key n in omega arith) in
    let first = small (suc n) (omega arith) in
    let second = small (least_below key (suc n)) least in
    let here : i ≡ suc n → rank (key i) ≡ rank (key (suc n)) = λ e. ap (λ x. rank (key x)) e in
    by_test (key_lt (key (suc n)) (key (least_below key (suc n))))
    (λ e.
    let r = key_lt-rank (key (suc n)) (key (least_below key (suc n))) first second e in
    subst (λ x. rank (key x) ≤ rank (key i)) (sym (least-true key (suc n) e)) (go i h (λ q. below i q) here r))
    (λ e.
    let r = not_lt-rank (key (suc n)) (key (least_below key (suc n))) first second e in
    subst (λ x. rank (key x) ≤ rank (key i)) (sym (least-false key (suc n) e)) (stay i h (λ q. below i q) here r))
  where
    go : (j : ℕ) → j < suc (suc n) → (j < suc n → rank (key (least_below key (suc n))) ≤ rank (key j)) → (j ≡ suc n → rank (key j) ≡ rank (key (suc n)))
        → rank (key (suc n)) < rank (key (least_below key (suc n))) → rank (key (suc n)) ≤ rank (key j)
    go j q low last r = grind arith

    stay : (j : ℕ) → j < suc (suc n) → (j < suc n → rank (key (least_below key (suc n))) ≤ rank (key j)) → (j ≡ suc n → rank (key j) ≡ rank (key (suc n)))
        → rank (key (least_below key (suc n))) ≤ rank (key (suc n)) → rank (key (least_below key (suc n))) ≤ rank (key j)
    stay j q low last r = grind arith

-- sums

pub total-le : (n : ℕ) (f g : ℕ → ℕ) → ((i : ℕ) → i < n → f i ≤ g i) → total n f ≤ total n g
total-le zero f g le = omega (arith, total-zero f)
total-le (suc n) f g le =
    let low = total-le n f g (λ i h. le i (omega arith)) in
    let last = le n (omega arith) in
    omega (arith, total-suc n f, total-suc n g)

-- a sum falls by what one of its parts falls by
pub total-falls : (n : ℕ) (f g : ℕ → ℕ) (i d : ℕ) → i < n → f i + d ≤ g i → ((k : ℕ) → k < n → k ≢ i → f k ≤ g k) → total n f + d ≤ total n g
total-falls zero f g i d h fall le = omega arith
total-falls (suc n) f g i d h fall le = go (same_or n i) (λ ne. total-falls n f g i d (omega arith) fall (λ k q. le k (omega arith)))
  where
    go : (n ≡ i) ⊎ (n ≢ i) → (n ≢ i → total n f + d ≤ total n g) → total (suc n) f + d ≤ total (suc n) g
    go (inl e) low =
        let rest = total-le n f g (λ k q. le k (omega arith) (λ same. let x : suc k ≤ n = q in let y : k ≡ n = same ∙ sym e in omega arith)) in
        let a = ap f e in
        let b = ap g e in
        omega (arith, total-suc n f, total-suc n g)
    go (inr ne) low =
        let l = low ne in
        let last = le n (omega arith) ne in
        omega (arith, total-suc n f, total-suc n g)

-- a number a gap lower has a quotient that is one lower
pub div-falls : (a b g : ℕ) → 1 ≤ g → b + g ≤ a → b / g + 1 ≤ a / g
div-falls a b g pos h =
    let down = div-mul-le_self b g in
    (le-div_iff_mul-le {k = g} pos).1 (go (b / g) down)
  where
    go : (q : ℕ) → q * g ≤ b → (q + 1) * g ≤ a
    go q r = omega arith

-- quotients rise with what is divided
pub div-mono : (a b g : ℕ) → 1 ≤ g → b ≤ a → b / g ≤ a / g
div-mono a b g pos h =
    let down = div-mul-le_self b g in
    (le-div_iff_mul-le {k = g} pos).1 (go (b / g) down)
  where
    go : (q : ℕ) → q * g ≤ b → q * g ≤ a
    go q r = omega arith
