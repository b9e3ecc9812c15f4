-- A run that continues from where another ended is one run; and two runs to one cycle are equal.
use Rattle.std.proofs.Common.{◌≡◌, ◌≢◌, ℕ, zero, suc, ◌+◌, ◌<◌, ◌≤◌, true, false, sym, ◌∙◌, ap, ap₂, subst, arith, ◌⊎◌, inl, inr, List, [], ◌∷◌, ◌++◌, append-nil, append_assoc}
use Rattle.std.proofs.lemmas.Bool.{cases_lt}
use Rattle.md_word.specs.declared.event.Entry.{Entry}
use Rattle.chip_core.specs.Chips.{Accessed, Rules, Lawful}
use Rattle.chip_core.specs.Machines.{Machine, key_of, is_sample, accessed, move, entries, mover, run, journal, move_key, AllBelow, AreSame, IsRunTo}
use Rattle.chip_core.proofs.Keys.{by_test, same_or, least-same}
use Rattle.chip_core.proofs.Stages.{chip-sample, chip-access, chip-other, shared-sample, shared-access, entries-sample, entries-access, mover-in}
use Rattle.chip_core.proofs.Runs.{run-zero, run-suc, journal-zero, journal-suc, below-less, below-suc}

module _ {Chip Shared Pins : Type 0} (rules : Rules Chip Shared Pins) where
  same-next : (m w : Machine Chip Shared) → AreSame rules m w → (i : ℕ) → i < rules.count → AreSame rules (move rules m i) (move rules w i)
  same-next m w same i h =
      by_test (is_sample rules m i)
      (λ e.
      let f : is_sample rules w i ≡ true = ap (λ (c : Chip). (rules.next c).sample) (sym (same.chip i h)) ∙ e in
      record {
        shared = shared-sample rules m i e ∙ same.shared ∙ sym (shared-sample rules w i f);
        chip = λ k q. chips k q
            (chip-sample rules m i e ∙ ap₂ rules.sample (same.chip i h) (ap (λ s. rules.pins s i) same.shared) ∙ sym (chip-sample rules w i f)) (same_or k i);
      })
      (λ e.
      let f : is_sample rules w i ≡ false = ap (λ (c : Chip). (rules.next c).sample) (sym (same.chip i h)) ∙ e in
      let a : accessed rules m i ≡ accessed rules w i = ap₂ rules.perform (same.chip i h) same.shared in
      record {
        shared = shared-access rules m i e ∙ ap (λ (x : Accessed Chip Shared). x.shared) a ∙ sym (shared-access rules w i f);
        chip = λ k q. chips k q (chip-access rules m i e ∙ ap (λ (x : Accessed Chip Shared). rules.advance x.chip) a ∙ sym (chip-access rules w i f)) (same_or k i);
      })
    where
      chips : (k : ℕ) → k < rules.count → (move rules m i).chip i ≡ (move rules w i).chip i → (k ≡ i) ⊎ (k ≢ i) → (move rules m i).chip k ≡ (move rules w i).chip k
      chips k q own (inl e) = subst (λ n. (move rules m i).chip n ≡ (move rules w i).chip n) (sym e) own
      chips k q own (inr ne) = chip-other rules m i k ne ∙ same.chip k q ∙ sym (chip-other rules w i k ne)

  same-mover : (m w : Machine Chip Shared) → AreSame rules m w → mover rules m ≡ mover rules w
  unfolding mover
  same-mover m w same = least-same (key_of rules m) (key_of rules w) rules.count (λ i h. ap (λ (c : Chip). (rules.next c).key) (same.chip i h))

  same-entries : (m w : Machine Chip Shared) → AreSame rules m w → (i : ℕ) → i < rules.count → entries rules m i ≡ entries rules w i
  same-entries m w same i h =
      by_test (is_sample rules m i)
      (λ e. entries-sample rules m i e ∙ sym (entries-sample rules w i (ap (λ (c : Chip). (rules.next c).sample) (sym (same.chip i h)) ∙ e)))
      (λ e. entries-access rules m i e ∙ ap (λ (x : Accessed Chip Shared). x.entry ∷ []) (ap₂ rules.perform (same.chip i h) same.shared)
      ∙ sym (entries-access rules w i (ap (λ (c : Chip). (rules.next c).sample) (sym (same.chip i h)) ∙ e)))

module _ {Chip Shared Pins : Type 0} (rules : Rules Chip Shared Pins) (chip_ok : Chip → Type 0) (shared_ok : Shared → Type 0) (law : Lawful rules chip_ok shared_ok) where
  -- the stage of the whole run that is stage n of its second part
  record Joined (m w : Machine Chip Shared) (t a n : ℕ) : Type 0 where
    stage : ℕ
    sum : stage ≡ a + n
    same : AreSame rules (run rules m stage) (run rules w n)
    below : AllBelow rules m t stage
    entered : journal rules m stage ≡ journal rules m a ++ journal rules w n

  joined : (m w : Machine Chip Shared) (t a : ℕ) → AreSame rules (run rules m a) w → AllBelow rules m t a → (n : ℕ) → AllBelow rules w t n → Joined m w t a n
  joined m w t a same below zero later = record {
    stage = a;
    sum = omega arith;
    same = subst (λ (x : Machine Chip Shared). AreSame rules (run rules m a) x) (sym (run-zero rules w)) same;
    below = below;
    entered = sym (ap (λ es. journal rules m a ++ es) (journal-zero rules w) ∙ append-nil (journal rules m a));
  }
  joined m w t a same below (suc n) later = go (joined m w t a same below n (below-less rules w t n (suc n) later (omega arith)))
    where
      go : Joined m w t a n → Joined m w t a (suc n)
      go j = record {
        stage = suc j.stage;
        sum = (let e = j.sum in omega arith);
        same = subst (λ (x : Machine Chip Shared). AreSame rules x (run rules w (suc n))) (sym (run-suc rules m j.stage))
            (subst (λ (x : Machine Chip Shared). AreSame rules (move rules (run rules m j.stage) (mover rules (run rules m j.stage))) x) (sym (run-suc rules w n))
            (subst (λ k. AreSame rules (move rules (run rules m j.stage) (mover rules (run rules m j.stage))) (move rules (run rules w n) k)) who
            (same-next rules (run rules m j.stage) (run rules w n) j.same (mover rules (run rules m j.stage)) inside)));
        below = below-suc rules m t j.stage j.below low;
        entered = journal-suc rules m j.stage ∙ ap₂ (λ xs ys. xs ++ ys) j.entered own ∙ append_assoc (journal rules m a) (journal rules w n) (entries rules (run rules w n) (mover rules (run rules w n))) ∙ ap (λ es. journal rules m a ++ es) (sym (journal-suc rules w n));
      }
        where
          who : mover rules (run rules m j.stage) ≡ mover rules (run rules w n)
          who = same-mover rules (run rules m j.stage) (run rules w n) j.same

          inside : mover rules (run rules m j.stage) < rules.count
          inside = mover-in rules chip_ok shared_ok law (run rules m j.stage)

          low : (move_key rules m j.stage).cycle < t
          low =
              let l = later.each n (omega arith) in
              let chip = ap (λ (c : Chip). (rules.next c).key.cycle) (j.same.chip (mover rules (run rules m j.stage)) inside) in
              let at = ap (λ k. (key_of rules (run rules w n) k).cycle) who in
              omega arith

          own : entries rules (run rules m j.stage) (mover rules (run rules m j.stage)) ≡ entries rules (run rules w n) (mover rules (run rules w n))
          own = same-entries rules (run rules m j.stage) (run rules w n) j.same (mover rules (run rules m j.stage)) inside ∙ ap (entries rules (run rules w n)) who

  pub run-joined : (m w z : Machine Chip Shared) (s t : ℕ) (first second : List Entry) → s ≤ t → IsRunTo rules m s w first → IsRunTo rules w t z second
      → IsRunTo rules m t z (first ++ second)
  run-joined m w z s t first second le one two = record {
    moves = whole.stage;
    below = whole.below;
    quiet = two.quiet;
    shared = two.shared ∙ sym whole.same.shared;
    chips = λ i h. two.chips i h ∙ sym (whole.same.chip i h);
    journal = ap₂ (λ xs ys. xs ++ ys) one.journal two.journal ∙ sym whole.entered;
  }
    where
      whole : Joined m w t one.moves two.moves
      whole = joined m w t one.moves (record { shared = sym one.shared; chip = λ i h. sym (one.chips i h) })
          (record { each = λ k q. let l = one.below.each k q in omega arith }) two.moves two.below

  -- what ends quietly makes no move more below the end
  no-more : (m w : Machine Chip Shared) (t : ℕ) (first : List Entry) (n : ℕ) → AllBelow rules m t n → (one : IsRunTo rules m t w first) → n ≤ one.moves
  no-more m w t first n below one = go (cases_lt one.moves n)
    where
      who : ℕ
      who = mover rules (run rules m one.moves)

      go : (one.moves < n) ⊎ (n ≤ one.moves) → n ≤ one.moves
      go (inl less) = absurd (
          let low = below.each one.moves less in
          let inside = mover-in rules chip_ok shared_ok law (run rules m one.moves) in
          let late = one.quiet who inside in
          let chip = ap (λ (c : Chip). (rules.next c).key.cycle) (one.chips who inside) in
          omega arith)
      go (inr few) = few

  -- two runs from one machine to one cycle are equal
  pub same-run : (m w z : Machine Chip Shared) (t : ℕ) (first second : List Entry) → IsRunTo rules m t w first → IsRunTo rules m t z second
      → AreSame rules w z × (first ≡ second)
  same-run m w z t first second one two = (
    record {
      shared = one.shared ∙ ap (λ n. (run rules m n).shared) moves ∙ sym two.shared;
      chip = λ i h. one.chips i h ∙ ap (λ n. (run rules m n).chip i) moves ∙ sym (two.chips i h);
    },
    one.journal ∙ ap (journal rules m) moves ∙ sym two.journal,
  )
    where
      moves : one.moves ≡ two.moves
      moves =
          let up = no-more m z t second one.moves one.below two in
          let down = no-more m w t first two.moves two.below one in
          omega arith
