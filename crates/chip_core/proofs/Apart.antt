-- An event of one chip, and another chip in the place of one that it leaves.
use Rattle.std.proofs.Common.{◌≡◌, ◌≢◌, ℕ, zero, suc, ◌<◌, true, false, cond, refl, sym, ◌∙◌, ap, ap₂, subst, arith, List, [], ◌∷◌, ◌++◌}
use mathlib.Core.Path.{fun_ext}
use Rattle.md_word.specs.declared.event.Entry.{Entry}
use Rattle.md_word.specs.declared.key.Key.{Key}
use Rattle.chip_core.specs.declared.event.Event.TheVariants.{Announce, Perform, Sample}
use Rattle.chip_core.specs.Chips.{Rules}
use Rattle.chip_core.specs.Events.{Seen, after, left_bound, own_event, past_access, sampled_on}
use Rattle.chip_core.specs.Machines.{Machine, accessed, is_sample, key_of, put}
use Rattle.chip_core.specs.Resting.{with_chip}
use Rattle.chip_core.proofs.Keys.{by_test, put-each, put-other, put-same}
use Rattle.chip_core.proofs.Sampling.{first-on}
use Rattle.chip_core.proofs.Stages.{move-access}
use Rattle.chip_core.proofs.Turns.{put-twice}

-- two places of a function are replaced in either order
pub put-swap : {X : Type 0} (f : ℕ → X) (i j : ℕ) (x y : X) → j ≢ i → put (put f i x) j y ≡ put (put f j y) i x
put-swap f i j x y ne =
    fun_ext (λ k. put-each (λ n z. z ≡ put (put f j y) i x n) (put f i x) j y k
    (λ _. sym (put-other (put f j y) i x j ne ∙ put-same f j y))
    (λ nj. put-each (λ n z. n ≢ j → z ≡ put (put f j y) i x n) f i x k (λ _ _. sym (put-same (put f j y) i x)) (λ ni q. sym (put-other (put f j y) i x k ni ∙ put-other f j y k q)) nj))

module _ {Chip Shared Pins : Type 0} (rules : Rules Chip Shared Pins) where
  -- an access of chip j, with the chip that makes it
  abbrev pub with_access : Seen Chip Shared → ℕ → Chip → Seen Chip Shared
  with_access s j d = record {
    machine = record { shared = (rules.perform d s.machine.shared).shared; chip = put s.machine.chip j (rules.advance (rules.perform d s.machine.shared).chip) };
    bound = put s.bound j (rules.next (rules.advance (rules.perform d s.machine.shared).chip)).key;
    journal = s.journal ++ (rules.perform d s.machine.shared).entry ∷ [];
  }

  pub access-on : (s : Seen Chip Shared) (j : ℕ) → is_sample rules s.machine j ≡ false → after rules (after rules s (Perform j)) (Announce j) ≡ with_access s j (s.machine.chip j)
  access-on s j is =
      ap (λ (m : Machine Chip Shared). record { machine = m; bound = put (put s.bound j (left_bound rules s.machine j)) j (key_of rules m j); journal = entered }) (move-access rules s.machine j is)
      ∙ ap (λ (x : Chip). record { machine = moved; bound = put (put s.bound j (left_bound rules s.machine j)) j (rules.next x).key; journal = entered }) (put-same s.machine.chip j d)
      ∙ ap (λ (b : ℕ → Key). record { machine = moved; bound = b; journal = entered }) (put-twice s.bound j (left_bound rules s.machine j) (rules.next d).key)
    where
      entered : List Entry
      entered = s.journal ++ (accessed rules s.machine j).entry ∷ []

      d : Chip
      d = rules.advance (accessed rules s.machine j).chip

      moved : Machine Chip Shared
      moved = record { shared = (accessed rules s.machine j).shared; chip = put s.machine.chip j d }

  -- an event of chip j leaves another chip, and comes to the same before and after that is replaced
  module _ (i j : ℕ) (ne : j ≢ i) where
    chip-apart : (s : Seen Chip Shared) (c : Chip) → (with_chip rules s i c).machine.chip j ≡ s.machine.chip j
    chip-apart s c = put-other s.machine.chip i c j ne

    pub kind-apart : (s : Seen Chip Shared) (c : Chip) → is_sample rules (with_chip rules s i c).machine j ≡ is_sample rules s.machine j
    kind-apart s c = ap (λ (x : Chip). (rules.next x).sample) (chip-apart s c)

    pub own-apart : (s : Seen Chip Shared) (c : Chip) → own_event rules (with_chip rules s i c) j ≡ own_event rules s j
    own-apart s c = ap (λ b. cond b (Sample j) (Perform j)) (kind-apart s c)

    access-apart : (s : Seen Chip Shared) (c : Chip) → is_sample rules s.machine j ≡ false
        → after rules (after rules (with_chip rules s i c) (Perform j)) (Announce j) ≡ with_chip rules (after rules (after rules s (Perform j)) (Announce j)) i c
    access-apart s c is =
        access-on (with_chip rules s i c) j (kind-apart s c ∙ is)
        ∙ ap (with_access (with_chip rules s i c) j) (chip-apart s c)
        ∙ ap₂ (λ (f : ℕ → Chip) (b : ℕ → Key). record { machine = record { shared = (accessed rules s.machine j).shared; chip = f }; bound = b; journal = s.journal ++ (accessed rules s.machine j).entry ∷ [] })
        (put-swap s.machine.chip i j c d ne) (put-swap s.bound i j (rules.next c).key (rules.next d).key ne)
        ∙ ap (λ (z : Seen Chip Shared). with_chip rules z i c) (sym (access-on s j is))
      where
        d : Chip
        d = rules.advance (accessed rules s.machine j).chip

    pub past-apart : (s : Seen Chip Shared) (c : Chip) → past_access rules (with_chip rules s i c) j ≡ with_chip rules (past_access rules s j) i c
    past-apart s c =
        ap (λ b. cond b (with_chip rules s i c) (after rules (after rules (with_chip rules s i c) (Perform j)) (Announce j))) (kind-apart s c)
        ∙ by_test (is_sample rules s.machine j)
        (λ e. subst (λ b. cond b (with_chip rules s i c) (after rules (after rules (with_chip rules s i c) (Perform j)) (Announce j)) ≡ with_chip rules (cond b s (after rules (after rules s (Perform j)) (Announce j))) i c) (sym e) refl)
        (λ e. subst (λ b. cond b (with_chip rules s i c) (after rules (after rules (with_chip rules s i c) (Perform j)) (Announce j)) ≡ with_chip rules (cond b s (after rules (after rules s (Perform j)) (Announce j))) i c) (sym e) (access-apart s c e))

    pub chip-past : (s : Seen Chip Shared) → (past_access rules s j).machine.chip i ≡ s.machine.chip i
    chip-past s =
        by_test (is_sample rules s.machine j)
        (λ e. ap (λ b. (cond b s (after rules (after rules s (Perform j)) (Announce j))).machine.chip i) e)
        (λ e. ap (λ b. (cond b s (after rules (after rules s (Perform j)) (Announce j))).machine.chip i) e ∙ ap (λ (z : Seen Chip Shared). z.machine.chip i) (access-on s j e)
        ∙ put-other s.machine.chip j (rules.advance (accessed rules s.machine j).chip) i (λ same. ne (sym same)))

    sample-apart : (s : Seen Chip Shared) (c : Chip) → is_sample rules s.machine j ≡ true
        → after rules (after rules (with_chip rules s i c) (Sample j)) (Announce j) ≡ with_chip rules (after rules (after rules s (Sample j)) (Announce j)) i c
    sample-apart s c is =
        first-on rules (with_chip rules s i c) j (kind-apart s c ∙ is)
        ∙ ap (λ (x : Chip). with_chip rules (with_chip rules s i c) j (rules.sample x (rules.pins s.machine.shared j))) (chip-apart s c)
        ∙ ap₂ (λ (f : ℕ → Chip) (b : ℕ → Key). record { machine = record { shared = s.machine.shared; chip = f }; bound = b; journal = s.journal })
        (put-swap s.machine.chip i j c d ne) (put-swap s.bound i j (rules.next c).key (rules.next d).key ne)
        ∙ ap (λ (z : Seen Chip Shared). with_chip rules z i c) (sym (first-on rules s j is))
      where
        d : Chip
        d = rules.sample (s.machine.chip j) (rules.pins s.machine.shared j)

    pub samples-apart : (s : Seen Chip Shared) (c : Chip) (n : ℕ) → ((k : ℕ) → k < n → is_sample rules (sampled_on rules k s j).machine j ≡ true)
        → sampled_on rules n (with_chip rules s i c) j ≡ with_chip rules (sampled_on rules n s j) i c
    unfolding sampled_on
    samples-apart s c zero each = refl
    samples-apart s c (suc n) each =
        ap (λ z. after rules (after rules z (Sample j)) (Announce j)) (samples-apart s c n (λ k h. each k (omega arith)))
        ∙ sample-apart (sampled_on rules n s j) c (each n (omega arith))

    pub chip-samples : (s : Seen Chip Shared) (n : ℕ) → ((k : ℕ) → k < n → is_sample rules (sampled_on rules k s j).machine j ≡ true) → (sampled_on rules n s j).machine.chip i ≡ s.machine.chip i
    unfolding sampled_on
    chip-samples s zero each = refl
    chip-samples s (suc n) each =
        ap (λ (z : Seen Chip Shared). z.machine.chip i) (first-on rules (sampled_on rules n s j) j (each n (omega arith)))
        ∙ put-other (sampled_on rules n s j).machine.chip j (rules.sample ((sampled_on rules n s j).machine.chip j) (rules.pins (sampled_on rules n s j).machine.shared j)) i (λ same. ne (sym same))
        ∙ chip-samples s n (λ k h. each k (omega arith))

  -- samples of its pins leave the shared state
  pub shared-samples : (s : Seen Chip Shared) (j n : ℕ) → ((k : ℕ) → k < n → is_sample rules (sampled_on rules k s j).machine j ≡ true) → (sampled_on rules n s j).machine.shared ≡ s.machine.shared
  unfolding sampled_on
  shared-samples s j zero each = refl
  shared-samples s j (suc n) each =
      ap (λ (z : Seen Chip Shared). z.machine.shared) (first-on rules (sampled_on rules n s j) j (each n (omega arith))) ∙ shared-samples s j n (λ k h. each k (omega arith))
