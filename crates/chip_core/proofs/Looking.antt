-- What a look at the chips finds, a chip at a time.
use Rattle.std.proofs.Common.{◌≡◌, ◌≢◌, ℕ, zero, suc, ◌+◌, ◌<◌, Bool, true, false, cond, refl, sym, ◌∙◌, ap, ap₂, subst, arith, ◌⊎◌, inl, inr, Option, Some, None, add-one}
use Rattle.md_word.specs.declared.event.Next.{Next}
use Rattle.md_word.specs.declared.key.Key.{Key}
use Rattle.md_word.specs.Keys.{key_lt}
use Rattle.chip_core.specs.Looks.{or_else, least_lagging}
use Rattle.chip_core.specs.Machines.{least_below}
use Rattle.chip_core.proofs.Keys.{by_test, same_or, least-in, least-true, least-false}

pub lagging-suc : (bound key : ℕ → Key) (n : ℕ) → least_lagging bound key (suc n) ≡ or_else (least_lagging bound key n) (cond (key_lt (bound n) (key n)) (Some n) None)
unfolding least_lagging
lagging-suc bound key n = refl

pub lagging-zero : (bound key : ℕ → Key) → least_lagging bound key 0 ≡ None
unfolding least_lagging
lagging-zero bound key = refl

pub lagging-more : (bound key : ℕ → Key) (i : ℕ) (before now : Option ℕ) (lags : Bool) (b k : Key) → b ≡ bound i → k ≡ key i → lags ≡ key_lt b k → before ≡ least_lagging bound key i
    → now ≡ or_else before (cond lags (Some i) None) → now ≡ least_lagging bound key (i + 1)
lagging-more bound key i before now lags b k eb ek el e is =
    is ∙ ap₂ (λ x y. or_else x (cond y (Some i) None)) e (el ∙ ap₂ key_lt eb ek) ∙ sym (lagging-suc bound key i) ∙ ap (least_lagging bound key) (sym (add-one i))

pub least-more : (next : ℕ → Next) (i : ℕ) (before now item : Next) → item ≡ next i → before ≡ next (least_below (λ k. (next k).key) i) → now ≡ cond (key_lt item.key before.key) item before
    → now ≡ next (least_below (λ k. (next k).key) (i + 1))
least-more next i before now item ei eb is =
    is ∙ ap₂ (λ x y. cond (key_lt x.key y.key) x y) ei eb
    ∙ by_test (key_lt (next i).key (next (least_below (λ k. (next k).key) i)).key)
    (λ e. ap (λ b. cond b (next i) (next (least_below (λ k. (next k).key) i))) e ∙ ap next (sym (least-true (λ k. (next k).key) i e)))
    (λ e. ap (λ b. cond b (next i) (next (least_below (λ k. (next k).key) i))) e ∙ ap next (sym (least-false (λ k. (next k).key) i e)))
    ∙ ap (λ n. next (least_below (λ k. (next k).key) n)) (sym (add-one i))

pub least-first : (next : ℕ → Next) (item : Next) → item ≡ next 0 → item ≡ next (least_below (λ k. (next k).key) 1)
least-first next item e =
    let h = least-in (λ k. (next k).key) 0 in
    let z : 0 ≡ least_below (λ k. (next k).key) 1 = omega arith in
    e ∙ ap next z

-- where none is found, none lags
pub none-lags : (bound key : ℕ → Key) (n : ℕ) → least_lagging bound key n ≡ None → (j : ℕ) → j < n → key_lt (bound j) (key j) ≡ false
none-lags bound key zero e j h = absurd (omega arith)
none-lags bound key (suc n) e j h = go (least_lagging bound key n) refl (sym (lagging-suc bound key n) ∙ e) (same_or j n) (λ f q. none-lags bound key n f j q)
  where
    go : (x : Option ℕ) → least_lagging bound key n ≡ x → or_else (least_lagging bound key n) (cond (key_lt (bound n) (key n)) (Some n) None) ≡ None → (j ≡ n) ⊎ (j ≢ n)
        → (least_lagging bound key n ≡ None → j < n → key_lt (bound j) (key j) ≡ false) → key_lt (bound j) (key j) ≡ false
    go (Some i) found all pick rec = absurd (let c : Some i ≡ None = sym (ap (λ y. or_else y (cond (key_lt (bound n) (key n)) (Some n) None)) found) ∙ all in cc)
    go None found all (inl same) rec =
        let c : cond (key_lt (bound n) (key n)) (Some n) None ≡ None = sym (ap (λ y. or_else y (cond (key_lt (bound n) (key n)) (Some n) None)) found) ∙ all in
        subst (λ k. key_lt (bound k) (key k) ≡ false) (sym same)
        (by_test (key_lt (bound n) (key n)) (λ t. absurd (let d : Some n ≡ None = sym (ap (λ b. cond b (Some n) None) t) ∙ c in cc)) (λ f. f))
    go None found all (inr ne) rec = rec found (omega arith)

-- the one that is found lags, and none before it does
pub record IsLeastLagging (bound key : ℕ → Key) (n i : ℕ) : Type 0 where
  pub inside : i < n
  pub lags : key_lt (bound i) (key i) ≡ true
  pub first : (j : ℕ) → j < i → key_lt (bound j) (key j) ≡ false

pub one-lags : (bound key : ℕ → Key) (n i : ℕ) → least_lagging bound key n ≡ Some i → IsLeastLagging bound key n i
one-lags bound key zero i e = absurd (let c : None ≡ Some i = sym (lagging-zero bound key) ∙ e in cc)
one-lags bound key (suc n) i e = go (least_lagging bound key n) refl (sym (lagging-suc bound key n) ∙ e) (λ f. one-lags bound key n i f)
  where
    at : (k : ℕ) → n ≡ k → key_lt (bound n) (key n) ≡ true → least_lagging bound key n ≡ None → IsLeastLagging bound key (suc n) k
    at k same lags none = record {
      inside = (omega arith);
      lags = subst (λ x. key_lt (bound x) (key x) ≡ true) same lags;
      first = λ j h. none-lags bound key n none j (omega arith);
    }

    go : (x : Option ℕ) → least_lagging bound key n ≡ x → or_else (least_lagging bound key n) (cond (key_lt (bound n) (key n)) (Some n) None) ≡ Some i
        → (least_lagging bound key n ≡ Some i → IsLeastLagging bound key n i) → IsLeastLagging bound key (suc n) i
    go (Some k) found all rec =
        let c : Some k ≡ Some i = sym (ap (λ y. or_else y (cond (key_lt (bound n) (key n)) (Some n) None)) found) ∙ all in
        let w = rec (found ∙ c) in
        record { inside = (let q = w.inside in omega arith); lags = w.lags; first = w.first }
    go None found all rec =
        let c : cond (key_lt (bound n) (key n)) (Some n) None ≡ Some i = sym (ap (λ y. or_else y (cond (key_lt (bound n) (key n)) (Some n) None)) found) ∙ all in
        by_test (key_lt (bound n) (key n))
        (λ t. at i (let d : Some n ≡ Some i = sym (ap (λ b. cond b (Some n) None) t) ∙ c in cc) t found)
        (λ f. absurd (let d : None ≡ Some i = sym (ap (λ b. cond b (Some n) None) f) ∙ c in cc))
