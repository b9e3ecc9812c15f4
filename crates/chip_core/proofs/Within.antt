-- The samples of a chip before a limit, none or more.
use Rattle.std.proofs.Common.{◌≡◌, ℕ, zero, suc, ◌+◌, ◌-◌, ◌<◌, ◌≤◌, false, refl, sym, ◌∙◌, ap, subst, arith, ◌⊎◌, inl, inr, true≢false}
use Rattle.std.proofs.lemmas.Bool.{cases_lt}
use Rattle.std.proofs.lemmas.Bool.Decides.{nat_tests}
use Rattle.md_word.specs.declared.key.Key.{Key}
use Rattle.md_word.specs.Keys.{key_lt}
use Rattle.chip_core.specs.declared.event.Event.TheVariants.{Announce, Sample}
use Rattle.chip_core.specs.Chips.{Rules, SamplesBelow}
use Rattle.chip_core.specs.Events.{SamplesOn, Seen, after, sampled_on}
use Rattle.chip_core.specs.Looks.{IsLimit}
use Rattle.chip_core.specs.Resting.{SamplesWithin}

module _ {Chip Shared Pins : Type 0} (rules : Rules Chip Shared Pins) where
  -- samples of chip i before a limit, as many as were made so far
  pub record SamplesFrom (t : ℕ) (end : Key) (i : ℕ) (s z : Seen Chip Shared) : Type 0 where
    pub limit : IsLimit rules t s.bound rules.count i end
    pub samples : ℕ
    pub each : (k : ℕ) → k < samples → SamplesBelow rules end ((sampled_on rules k s i).machine.chip i)
    pub is : z ≡ sampled_on rules samples s i

  pub from-first : (t : ℕ) (end : Key) (i : ℕ) (s : Seen Chip Shared) → IsLimit rules t s.bound rules.count i end → SamplesFrom t end i s s
  unfolding sampled_on
  from-first t end i s limit = record { limit = limit; samples = 0; each = λ k h. absurd (omega arith); is = refl }

  pub from-within : (t : ℕ) (end : Key) (i : ℕ) (s z : Seen Chip Shared) → SamplesFrom t end i s z → SamplesWithin rules t i s z
  from-within t end i s z from = record { end = end; limit = from.limit; samples = from.samples; each = from.each; is = from.is }

  pub within-none : (t i : ℕ) (s : Seen Chip Shared) → SamplesWithin rules t i s s
  unfolding sampled_on
  within-none t i s = record { end = record { cycle = 0; chip = 0 }; limit = λ key below. absurd (true≢false (sym below ∙ nothing key)); samples = 0; each = λ k h. absurd (omega arith); is = refl }
    where
      nothing : (key : Key) → key_lt key (record { cycle = 0; chip = 0 }) ≡ false
      nothing key = grind (arith, nat_tests)

  on-more : (s : Seen Chip Shared) (i a b n : ℕ) → n ≡ a + b → sampled_on rules b (sampled_on rules a s i) i ≡ sampled_on rules n s i
  unfolding sampled_on
  on-more s i a zero n e = ap (λ m. sampled_on rules m s i) (let same : a ≡ n = omega (arith, e) in same)
  on-more s i a (suc b) n e =
      ap (λ z. after rules (after rules z (Sample i)) (Announce i)) (on-more s i a b (a + b) refl)
      ∙ ap (λ m. sampled_on rules m s i) (let same : suc (a + b) ≡ n = omega (arith, e) in same)

  pub from-on : (t : ℕ) (end : Key) (i : ℕ) (s z w : Seen Chip Shared) → SamplesFrom t end i s z → SamplesOn rules end i z w → SamplesFrom t end i s w
  from-on t end i s z w from on = record {
    limit = from.limit;
    samples = from.samples + on.samples;
    each = λ k h. each k h (cases_lt k from.samples);
    is = on.is ∙ ap (λ (x : Seen Chip Shared). sampled_on rules on.samples x i) from.is ∙ on-more s i from.samples on.samples (from.samples + on.samples) refl;
  }
    where
      each : (k : ℕ) → k < from.samples + on.samples → (k < from.samples) ⊎ (from.samples ≤ k) → SamplesBelow rules end ((sampled_on rules k s i).machine.chip i)
      each k h (inl low) = from.each k low
      each k h (inr past) =
          let j : ℕ = k - from.samples in
          let is : k ≡ from.samples + j = omega arith in
          subst (λ (x : Seen Chip Shared). SamplesBelow rules end (x.machine.chip i))
          (ap (λ (x : Seen Chip Shared). sampled_on rules j x i) from.is ∙ on-more s i from.samples j k is) (on.each j (omega arith))
