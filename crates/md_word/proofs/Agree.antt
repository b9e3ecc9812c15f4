-- Two functions of a word agree on a range where the lists of their values are equal, which is
-- shown by computing both.
use Rattle.std.proofs.Common.{◌≡◌, ℕ, ◌+◌, ◌<◌, ◌≤◌, List, [], ◌∷◌, map, Bool, cond, suc, zero, inl, inr, arith}
use Rattle.std.proofs.lemmas.Bool.{cases_lt}

-- the n numbers from base on
unfoldable pub range : ℕ → ℕ → List ℕ
range zero base = []
range (suc n) base = base ∷ range n (suc base)

-- where the values agree as lists, they agree at each word
pub same_at : {A : Type 0} (f g : ℕ → A) (n base : ℕ) → map f (range n base) ≡ map g (range n base) → (w : ℕ) → base ≤ w → w < base + n → f w ≡ g w
unfolding range
same_at f g zero base e w low high = absurd (omega arith)
same_at f g (suc n) base e w low high =
    let head : f base ≡ g base = cc in
    let tail : map f (range n (suc base)) ≡ map g (range n (suc base)) = cc in
    elim (cases_lt base w) [
      | inl h ↦ same_at f g n (suc base) tail w (omega arith) (omega arith)
      | inr h ↦ (let i : w ≡ base = omega arith in rw i head)
    ]

-- the words of a range at which a test fails: for finding where two functions differ
unfoldable pub failing : (ℕ → Bool) → ℕ → ℕ → List ℕ
failing test zero base = []
failing test (suc n) base = cond (test base) (failing test n (suc base)) (base ∷ failing test n (suc base))
