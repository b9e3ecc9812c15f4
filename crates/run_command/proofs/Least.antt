-- The least number that passes a test.
use Rattle.std.proofs.Common.{◌≡◌, ℕ, zero, suc, ◌<◌, ◌≤◌, ◌⊎◌, inl, inr, Bool, true, false, refl, sym, ap, ◌∙◌, arith}
use Rattle.std.proofs.lemmas.Bool.{true≢false}
use Rattle.run_command.specs.Least.{least}

-- it is the number below which none does
pub least-is : (test : ℕ → Bool) (limit n : ℕ) → n ≤ limit → test n ≡ true → ((k : ℕ) → k < n → test k ≡ false) → least test limit ≡ n
unfolding least
least-is test zero n within passes none = omega arith
least-is test (suc limit) zero within passes none = rw passes refl
least-is test (suc limit) (suc n) within passes none =
    rw (none 0 (omega arith)) (ap suc (least-is (λ k. test (suc k)) limit n (omega arith) passes (λ k below. none (suc k) (omega arith))))

none_at : (test : ℕ → Bool) (limit k : ℕ) → test 0 ≡ false → ((j : ℕ) → j ≤ limit → test (suc j) ≡ false) → k ≤ suc limit → test k ≡ false
none_at test limit zero first others within = first
none_at test limit (suc k) first others within = others k (omega arith)

none_zero : (test : ℕ → Bool) (k : ℕ) → test 0 ≡ false → k ≤ 0 → test k ≡ false
none_zero test k first within =
    let is : k ≡ 0 = omega arith in
    ap test is ∙ first

-- it passes, or none within the limit does
found_first : (test : ℕ → Bool) (limit : ℕ) (b : Bool) → test 0 ≡ b
    → (test (suc (least (λ k. test (suc k)) limit)) ≡ true) ⊎ ((k : ℕ) → k ≤ limit → test (suc k) ≡ false)
    → (test (least test (suc limit)) ≡ true) ⊎ ((k : ℕ) → k ≤ suc limit → test k ≡ false)
unfolding least
found_first test limit true first later = inl (rw first first)
found_first test limit false first (inl passes) = inl (rw first passes)
found_first test limit false first (inr none) = inr (λ k within. none_at test limit k first none within)

found_zero : (test : ℕ → Bool) (b : Bool) → test 0 ≡ b → (test (least test 0) ≡ true) ⊎ ((k : ℕ) → k ≤ 0 → test k ≡ false)
unfolding least
found_zero test true first = inl first
found_zero test false first = inr (λ k within. none_zero test k first within)

pub least-found : (test : ℕ → Bool) (limit : ℕ) → (test (least test limit) ≡ true) ⊎ ((k : ℕ) → k ≤ limit → test k ≡ false)
least-found test zero = found_zero test (test 0) refl
least-found test (suc limit) = found_first test limit (test 0) refl (least-found (λ k. test (suc k)) limit)

least-le_by : (test : ℕ → Bool) (limit n : ℕ) (b : Bool) → test 0 ≡ b → (test 0 ≡ false → suc (least (λ k. test (suc k)) limit) ≤ n) → least test (suc limit) ≤ n
unfolding least
least-le_by test limit n true first others = rw first (omega arith)
least-le_by test limit n false first others = rw first (others first)

-- it is at most any number that passes
pub least-le : (test : ℕ → Bool) (limit n : ℕ) → test n ≡ true → least test limit ≤ n
least-le test zero n passes = unfold least in omega arith
least-le test (suc limit) zero passes = least-le_by test limit zero (test 0) refl (λ fails. absurd (true≢false (sym passes ∙ fails)))
least-le test (suc limit) (suc n) passes =
    least-le_by test limit (suc n) (test 0) refl (λ fails. omega (arith, least-le (λ k. test (suc k)) limit n passes))

-- no number below it passes
pub least-below : (test : ℕ → Bool) (limit k : ℕ) → k < least test limit → test k ≡ false
least-below test limit k below = below_by (test k) refl
  where
    below_by : (b : Bool) → test k ≡ b → test k ≡ false
    below_by true passes = absurd (omega (arith, least-le test limit k passes))
    below_by false fails = fails
