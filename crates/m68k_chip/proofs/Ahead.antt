-- A 68000 that goes ahead.
use Rattle.std.proofs.Common.{◌≡◌, inl, inr, ℕ, suc, ◌+◌, ◌<◌, ◌≤◌, false, true, List, sym, ap, subst, ◌∙◌, arith}
use Rattle.std.proofs.lemmas.Bool.{cases_lt}
use Rattle.std.proofs.Math.Nat.{eq-or-lt_of_le}
use Rattle.m68k_chip.specs.Events.{WentAhead, begun, begun_after}
use Rattle.m68k_chip.specs.States.{State68, next_of}

-- one sample alone
pub one-ahead : (cart : List ℕ) (state : State68) (level end : ℕ) (after : State68) → after ≡ begun cart state level → WentAhead 1 end cart level state after
unfolding begun_after
one-ahead cart state level end after is = record {
  some = omega arith;
  sample = λ k some most. absurd (omega arith);
  below = λ k some most. absurd (omega arith);
  is = is;
}

pub not-below : (a b : ℕ) → (a < b → false ≡ true) → b ≤ a
not-below a b invalid = elim (cases_lt a b) [
  | inl low ↦ (let no_way = invalid low in cc)
  | inr late ↦ late
]

-- and one more, which lies below the cycle
suc-ahead : (cart : List ℕ) (state : State68) (level end n : ℕ) (now after : State68) → WentAhead n end cart level state now → (next_of now).sample ≡ true → now.next < end
    → after ≡ begun cart now level → WentAhead (suc n) end cart level state after
unfolding begun_after
suc-ahead cart state level end n now after went kind low is = record {
  some = omega arith;
  sample = λ k some most. elim (eq-or-lt_of_le {n = k} {m = n} (omega arith)) [
    | inr before ↦ went.sample k some before
    | inl last ↦ subst (λ m. (next_of (begun_after m cart state level)).sample ≡ true) (sym last) (subst (λ (x : State68). (next_of x).sample ≡ true) went.is kind)
  ];
  below = λ k some most. elim (eq-or-lt_of_le {n = k} {m = n} (omega arith)) [
    | inr before ↦ went.below k some before
    | inl last ↦ subst (λ m. (begun_after m cart state level).next < end) (sym last) (subst (λ (x : State68). x.next < end) went.is low)
  ];
  is = is ∙ ap (λ x. begun cart x level) went.is;
}

pub more-ahead : (cart : List ℕ) (state : State68) (level end n : ℕ) (now after : State68) → WentAhead n end cart level state now → (next_of now).sample ≡ true → now.next < end
    → after ≡ begun cart now level → WentAhead (n + 1) end cart level state after
more-ahead cart state level end n now after went kind low is =
    subst (λ m. WentAhead m end cart level state after) (let e : suc n ≡ n + 1 = omega arith in e) (suc-ahead cart state level end n now after went kind low is)
