-- The limit of one bound more.
use Rattle.std.proofs.Common.{◌≡◌, ◌≢◌, ◌↔◌, ℕ, ◌+◌, ◌<◌, Bool, true, false, cond, ◌&&◌, refl, sym, ◌∙◌, subst, arith, ◌⊎◌, inl, inr}
use Rattle.std.proofs.lemmas.Bool.Decides.{nat_tests}
use Rattle.md_word.specs.declared.key.Key.{Key}
use Rattle.md_word.specs.Keys.{key_lt}
use Rattle.chip_core.specs.Chips.{Rules}
use Rattle.chip_core.specs.Looks.{IsFreeTo, IsLastFree, IsLeastLimit, IsLimit}
use Rattle.chip_core.proofs.Keys.{lt-through}

last_or : (j n : ℕ) → j < n + 1 → (j < n) ⊎ (j ≡ n)
last_or j n h = grind arith

lt-twice : (a b c : Key) → key_lt a b ≡ true → key_lt b c ≡ true → key_lt a c ≡ true
lt-twice a b c p q = grind (arith, nat_tests)

-- the bounds that count
module _ (Counts : ℕ → Type 0) (t : ℕ) (bound : ℕ → Key) where
  abbrev Below : ℕ → Key → Type 0
  Below n end = (key : Key) → key_lt key end ≡ true → (key.cycle < t) × ((j : ℕ) → j < n → Counts j → key_lt key (bound j) ≡ true)

  abbrev Least : ℕ → Key → Type 0
  Least n end = (key : Key) → key.cycle < t → ((j : ℕ) → j < n → Counts j → key_lt key (bound j) ≡ true) → key_lt key end ≡ true

  module _ (n : ℕ) (end : Key) (x : Bool) (now : Key) (counts : (x ≡ true) ↔ Counts n) (is : now ≡ cond (x && key_lt (bound n) end) (bound n) end) where
    lower-below : Below n end → Below (n + 1) now
    lower-below limit = subst (λ (k : Key). Below (n + 1) k) (sym is) (go x refl (key_lt (bound n) end) refl)
      where
        past : (j : ℕ) → (key : Key) → key_lt key end ≡ true → (j ≡ n → Counts j → key_lt key (bound j) ≡ true) → j < n + 1 → Counts j → key_lt key (bound j) ≡ true
        past j key below last h c = elim (last_or j n h) [
          | inl before ↦ (limit key below).1 j before c
          | inr same ↦ last same c
        ]

        go : (a : Bool) → x ≡ a → (b : Bool) → key_lt (bound n) end ≡ b → Below (n + 1) (cond (a && b) (bound n) end)
        go true e true f key below =
            let low = lt-twice key (bound n) end below f in
            ((limit key low).0, λ j h c. past j key low (λ same _. subst (λ m. key_lt key (bound m) ≡ true) (sym same) below) h c)
        go true e false f key below = ((limit key below).0, λ j h c. past j key below (λ same _. subst (λ m. key_lt key (bound m) ≡ true) (sym same) (lt-through key end (bound n) below f)) h c)
        go false e b f key below = (
          (limit key below).0,
          λ j h c. past j key below (λ same d. absurd (
              let is_one = counts.1 (subst (λ m. Counts m) same d) in
              let no_way : false ≡ true = sym e ∙ is_one in
              cc)) h c,
        )

    lower-most : Least n end → Least (n + 1) now
    lower-most least = subst (λ (k : Key). Least (n + 1) k) (sym is) (go x refl (key_lt (bound n) end) refl)
      where
        go : (a : Bool) → x ≡ a → (b : Bool) → key_lt (bound n) end ≡ b → Least (n + 1) (cond (a && b) (bound n) end)
        go true e true f key early each = each n (omega arith) (counts.0 e)
        go true e false f key early each = least key early (λ j h. each j (omega arith))
        go false e b f key early each = least key early (λ j h. each j (omega arith))

-- those of the others that write a chip's pins
module _ {Chip Shared Pins : Type 0} (rules : Rules Chip Shared Pins) (t : ℕ) (bound : ℕ → Key) (n i : ℕ) (end : Key) (x : Bool) (now : Key)
    (counts : (x ≡ true) ↔ ((n ≢ i) × (rules.writes n i ≡ true))) (is : now ≡ cond (x && key_lt (bound n) end) (bound n) end) where
  pub lower-limit : IsLimit rules t bound n i end → IsLimit rules t bound (n + 1) i now
  lower-limit limit key below =
      let found = lower-below (λ j. (j ≢ i) × (rules.writes j i ≡ true)) t bound n end x now counts is (λ k b. let l = limit k b in (l.0, λ j h c. l.1 j h c.0 c.1)) key below in
      (found.0, λ j h ne w. found.1 j h (ne, w))

  pub lower-least : IsLeastLimit rules t bound n i end → IsLeastLimit rules t bound (n + 1) i now
  lower-least least key early each =
      lower-most (λ j. (j ≢ i) × (rules.writes j i ≡ true)) t bound n end x now counts is (λ k e all. least k e (λ j h ne w. all j h (ne, w))) key early (λ j h c. each j h c.0 c.1)

-- those of all but two chips
module _ (t : ℕ) (bound : ℕ → Key) (n i s : ℕ) (end : Key) (x : Bool) (now : Key) (counts : (x ≡ true) ↔ ((n ≢ i) × (n ≢ s))) (is : now ≡ cond (x && key_lt (bound n) end) (bound n) end) where
  pub lower-free : IsFreeTo t bound n i s end → IsFreeTo t bound (n + 1) i s now
  lower-free free key below =
      let found = lower-below (λ j. (j ≢ i) × (j ≢ s)) t bound n end x now counts is (λ k b. let l = free k b in (l.0, λ j h c. l.1 j h c.0 c.1)) key below in
      (found.0, λ j h ne ns. found.1 j h (ne, ns))

  pub lower-last : IsLastFree t bound n i s end → IsLastFree t bound (n + 1) i s now
  lower-last last key early each =
      lower-most (λ j. (j ≢ i) × (j ≢ s)) t bound n end x now counts is (λ k e all. last k e (λ j h ne ns. all j h (ne, ns))) key early (λ j h c. each j h c.0 c.1)
