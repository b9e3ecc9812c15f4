-- A core with a chip that stands in for another.
use Rattle.std.proofs.Common.{◌≡◌, ◌≢◌, ℕ, ◌<◌, ◌⊎◌, inl, inr, ap, ◌∙◌, subst, sym, slice_set, arith, get_or-set_same, get_or-set_other, length-set}
use Rattle.md_word.specs.Keys.{key_lt}
use Rattle.md_word.specs.declared.key.Key.{Key}
use Rattle.chip_core.specs.Chips.{Rules}
use Rattle.chip_core.specs.Cores.{CoreValue, IsCore, IsStandIn, bound_in, chip_in, key_in}
use Rattle.chip_core.proofs.Keys.{same_or}

module _ {Chip Shared Pins : Type 0} (rules : Rules Chip Shared Pins) (chip_ok : Chip → Type 0) (shared_ok : Shared → Type 0) where
  module _ (v : CoreValue Chip Shared) (core : IsCore rules chip_ok shared_ok v) (i : ℕ) (within : i < rules.count) (d : Chip) (is : IsStandIn rules chip_ok (chip_in rules v.chips i) d) where
    set-same : (k : ℕ) → k ≡ i → chip_in rules (slice_set v.chips i d) k ≡ d
    set-same k e = ap (chip_in rules (slice_set v.chips i d)) e ∙ get_or-set_same v.chips i d rules.blank (omega (arith, within, core.shape.chip_count))

    key-set : (k : ℕ) → (k ≡ i) ⊎ (k ≢ i) → key_in rules (slice_set v.chips i d) k ≡ key_in rules v.chips k
    key-set k (inl e) = ap (λ (c : Chip). (rules.next c).key) (set-same k e) ∙ is.key ∙ ap (key_in rules v.chips) (sym e)
    key-set k (inr ne) = ap (λ (c : Chip). (rules.next c).key) (get_or-set_other v.chips i k d rules.blank ne)

    ok-set : (k : ℕ) → k < rules.count → (k ≡ i) ⊎ (k ≢ i) → chip_ok (chip_in rules (slice_set v.chips i d) k)
    ok-set k below (inl e) = subst chip_ok (sym (set-same k e)) is.ok
    ok-set k below (inr ne) = subst chip_ok (sym (get_or-set_other v.chips i k d rules.blank ne)) (core.chip k below)

    pub stood-in : IsCore rules chip_ok shared_ok (record v { chips = slice_set v.chips i d })
    stood-in = record {
      shape = record {
        chip_count = length-set v.chips i d ∙ core.shape.chip_count;
        bound_count = core.shape.bound_count;
        number = λ k below. ap (λ (q : Key). q.chip) (key-set k (same_or k i)) ∙ core.shape.number k below;
        bound_number = core.shape.bound_number;
        under = λ k below. ap (λ (q : Key). key_lt q (bound_in v.bounds k)) (key-set k (same_or k i)) ∙ core.shape.under k below;
      };
      shared = core.shared;
      chip = λ k below. ok-set k below (same_or k i);
    }
