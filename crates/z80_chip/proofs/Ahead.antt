-- A Z80 that goes ahead.
use Rattle.std.proofs.Common.{◌≡◌, inl, inr, ℕ, suc, ◌+◌, ◌<◌, true, List, sym, ap, subst, ◌∙◌, refl, arith}
use Rattle.std.proofs.Math.Nat.{eq-or-lt_of_le}
use Rattle.md_word.specs.declared.pins.Pins80.{Pins80}
use Rattle.z80_chip.specs.Events.{WentAhead, begun, begun_after}
use Rattle.z80_chip.specs.States.{State80, is_sample, next_of}
use Rattle.z80_chip.specs.declared.stage.Stage.{Stage}
use Rattle.z80_chip.specs.declared.stage.Stage.TheVariants.{Sample, Access, Yield, Take}

sample-stage : (stage : Stage) → is_sample stage ≡ true → stage ≡ Sample
sample-stage Sample e = refl
sample-stage Access e = cc
sample-stage Yield e = cc
sample-stage Take e = cc

pub sampling : (state : State80) → (next_of state).sample ≡ true → state.stage ≡ Sample
unfolding next_of
sampling state e = sample-stage state.stage e

-- and one more sample, which lies below the cycle
suc-ahead : (cart : List ℕ) (state : State80) (pins : Pins80) (end n : ℕ) (now after : State80) → WentAhead n end cart pins state now → (next_of now).sample ≡ true → now.next < end
    → after ≡ begun cart now pins → WentAhead (suc n) end cart pins state after
unfolding begun_after
suc-ahead cart state pins end n now after went kind low is = record {
  some = omega arith;
  sample = λ k some most. elim (eq-or-lt_of_le {n = k} {m = n} (omega arith)) [
    | inr before ↦ went.sample k some before
    | inl last ↦ subst (λ m. (begun_after m cart state pins).stage ≡ Sample) (sym last) (subst (λ (x : State80). x.stage ≡ Sample) went.is (sampling now kind))
  ];
  below = λ k some most. elim (eq-or-lt_of_le {n = k} {m = n} (omega arith)) [
    | inr before ↦ went.below k some before
    | inl last ↦ subst (λ m. (begun_after m cart state pins).next < end) (sym last) (subst (λ (x : State80). x.next < end) went.is low)
  ];
  is = is ∙ ap (λ x. begun cart x pins) went.is;
}

pub more-ahead : (cart : List ℕ) (state : State80) (pins : Pins80) (end n : ℕ) (now after : State80) → WentAhead n end cart pins state now → (next_of now).sample ≡ true → now.next < end
    → after ≡ begun cart now pins → WentAhead (n + 1) end cart pins state after
more-ahead cart state pins end n now after went kind low is =
    subst (λ m. WentAhead m end cart pins state after) (let e : suc n ≡ n + 1 = omega arith in e) (suc-ahead cart state pins end n now after went kind low is)
