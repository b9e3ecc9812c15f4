-- Samples of the same pins, one after the other.
use Rattle.std.proofs.Common.{◌≡◌, ℕ, zero, suc, ◌+◌, ◌-◌, ◌<◌, ◌≤◌, ◌⊎◌, inl, inr, true, false, refl, sym, ◌∙◌, ap, subst, arith}
use Rattle.std.proofs.lemmas.Bool.{cases_lt}
use Rattle.std.proofs.lemmas.Bool.Decides.{nat_tests}
use Rattle.md_word.specs.Clock.{cycle_limit}
use Rattle.md_word.specs.declared.key.Key.{Key}
use Rattle.md_word.specs.Keys.{key_lt}
use Rattle.chip_core.specs.Chips.{ArePins, Follows, IsDue, Lawful, Rules, SamplesBelow, SamplesTo, sampled}

-- a key below one that is not above a cycle
pub below-cycle : (k end : Key) → key_lt k end ≡ true → key_lt (record { cycle = cycle_limit; chip = 0 }) end ≡ false → k.cycle < cycle_limit
below-cycle k end h le = grind (arith, nat_tests)

pub below-end : (k end : Key) → key_lt k end ≡ true → k.cycle ≤ end.cycle
below-end k end h = grind (arith, nat_tests)

module _ {Chip Shared Pins : Type 0} (rules : Rules Chip Shared Pins) where
  -- samples and further ones
  sampled-more : (a b n : ℕ) (pins : Pins) (c : Chip) → n ≡ a + b → sampled rules n pins c ≡ sampled rules b pins (sampled rules a pins c)
  unfolding sampled
  sampled-more a zero n pins c e = ap (λ m. sampled rules m pins c) (let s : n ≡ a = omega (arith, e) in s)
  sampled-more a (suc b) n pins c e =
      ap (λ m. sampled rules m pins c) (let s : n ≡ suc (a + b) = omega (arith, e) in s)
      ∙ ap (λ x. rules.sample x pins) (sampled-more a b (a + b) pins c refl)

  pub more-samples : (a b : ℕ) (end : Key) (pins : Pins) (c d e : Chip) → SamplesTo rules a end pins c d → SamplesTo rules b end pins d e → SamplesTo rules (a + b) end pins c e
  more-samples a b end pins c d e first next = record {
    some = (let one = first.some in omega arith);
    each = λ k h. go k h (cases_lt k a);
    is = next.is ∙ ap (sampled rules b pins) first.is ∙ sym (sampled-more a b (a + b) pins c refl);
  }
    where
      go : (k : ℕ) → k < a + b → (k < a) ⊎ (a ≤ k) → SamplesBelow rules end (sampled rules k pins c)
      go k h (inl low) = first.each k low
      go k h (inr past) =
          let j : ℕ = k - a in
          let is : k ≡ a + j = omega arith in
          subst (λ x. SamplesBelow rules end x) (ap (sampled rules j pins) first.is ∙ sym (sampled-more a j k pins c is)) (next.each j (omega arith))

module _ {Chip Shared Pins : Type 0} (rules : Rules Chip Shared Pins) (chip_ok : Chip → Type 0) (shared_ok : Shared → Type 0) (law : Lawful rules chip_ok shared_ok) where
  -- each sample raises the cycle
  pub record Risen (i n : ℕ) (before after : Chip) : Type 0 where
    pub ok : chip_ok after
    pub number : (rules.next after).key.chip ≡ i
    pub later : (rules.next before).key.cycle + n ≤ (rules.next after).key.cycle

  one-risen : (pins : Pins) (i : ℕ) → ArePins rules shared_ok pins i → i < rules.count → (end : Key) → key_lt (record { cycle = cycle_limit; chip = 0 }) end ≡ false
      → (n : ℕ) (b c : Chip) → Risen i n b c → SamplesBelow rules end c → Risen i (suc n) b (rules.sample c pins)
  one-risen pins i are h end small n b c before next = record {
    ok = subst (λ p. chip_ok (rules.sample c p)) (sym are.is) (law.sample_chip c are.shared i due);
    number = follows.number ∙ before.number;
    later = (let gap = law.gap_some i h in let rise = follows.later in let low = before.later in let same = ap rules.gap before.number in omega arith);
  }
    where
      due : IsDue rules chip_ok shared_ok c are.shared i true
      due = record { chip = before.ok; shared = are.ok; number = before.number; kind = next.0; cycle = below-cycle (rules.next c).key end next.1 small }

      follows : Follows rules.gap (rules.next c).key (rules.next (rules.sample c pins)).key
      follows = subst (λ p. Follows rules.gap (rules.next c).key (rules.next (rules.sample c p)).key) (sym are.is) (law.sample_next c are.shared i due)

  pub all-risen : (pins : Pins) (i : ℕ) → ArePins rules shared_ok pins i → i < rules.count → (end : Key) → key_lt (record { cycle = cycle_limit; chip = 0 }) end ≡ false
      → (c : Chip) → chip_ok c → (rules.next c).key.chip ≡ i → (n : ℕ) → ((k : ℕ) → k < n → SamplesBelow rules end (sampled rules k pins c)) → Risen i n c (sampled rules n pins c)
  unfolding sampled
  all-risen pins i are h end small c ok number zero each = record { ok = ok; number = number; later = omega arith }
  all-risen pins i are h end small c ok number (suc n) each =
      one-risen pins i are h end small n c (sampled rules n pins c) (all-risen pins i are h end small c ok number n (λ k q. each k (omega arith))) (each n (omega arith))

  pub samples-risen : (pins : Pins) (i : ℕ) → ArePins rules shared_ok pins i → i < rules.count → (end : Key) → key_lt (record { cycle = cycle_limit; chip = 0 }) end ≡ false
      → (n : ℕ) (c d : Chip) → chip_ok c → (rules.next c).key.chip ≡ i → SamplesTo rules n end pins c d → Risen i n c d
  samples-risen pins i are h end small n c d ok number to = subst (λ x. Risen i n c x) (sym to.is) (all-risen pins i are h end small c ok number n to.each)

  -- there are no more samples than cycles
  pub samples-few : (pins : Pins) (i : ℕ) → ArePins rules shared_ok pins i → i < rules.count → (end : Key) → key_lt (record { cycle = cycle_limit; chip = 0 }) end ≡ false
      → (n : ℕ) (c d : Chip) → chip_ok c → (rules.next c).key.chip ≡ i → SamplesTo rules n end pins c d → n ≤ cycle_limit
  samples-few pins i are h end small n c d ok number to =
      let some = to.some in
      let rise = (all-risen pins i are h end small c ok number (n - 1) (λ k q. to.each k (omega arith))).later in
      let low = below-cycle (rules.next (sampled rules (n - 1) pins c)).key end (to.each (n - 1) (omega arith)).1 small in
      omega arith
