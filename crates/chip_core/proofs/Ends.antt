-- A core without a key below the end is the machine after all events below it, with the whole
-- journal.
use Rattle.std.proofs.Common.{◌≡◌, ◌≢◌, ℕ, zero, suc, ◌<◌, ◌≤◌, false, refl, sym, ◌∙◌, ap, subst, arith, ◌⊎◌, inl, inr}
use Rattle.std.proofs.lemmas.Bool.{cases_lt}
use Rattle.md_word.specs.Clock.{cycle_limit}
use Rattle.chip_core.specs.Chips.{Rules, Lawful}
use Rattle.chip_core.specs.Machines.{Machine, key_of, is_sample, mover, run, made, AllBelow, IsQuiet, IsRunTo, IsValid}
use Rattle.chip_core.specs.Standing.{StandsFor}
use Rattle.chip_core.specs.Events.{Seen, Stands, IsTidy}
use Rattle.chip_core.proofs.Keys.{same_or, le_or}
use Rattle.chip_core.proofs.Stages.{mover-in}
use Rattle.chip_core.proofs.Runs.{made-mover, made-other, made-mono, below-less, climb, chip-at, shared-stretch, journal-stretch}
use Rattle.chip_core.proofs.Stands.{past_count}

module _ {Chip Shared Pins : Type 0} (rules : Rules Chip Shared Pins) (base : Machine Chip Shared) (t : ℕ) where
  -- a stage below the end that is past one of each of the first n chips
  record Past (P : ℕ → ℕ → Type 0) (n : ℕ) : Type 0 where
    last : ℕ
    below : AllBelow rules base t last
    past : (i : ℕ) → i < n → (p : ℕ) × (p ≤ last) × P i p

  past_all : (P : ℕ → ℕ → Type 0) → ((i : ℕ) → i < rules.count → (p : ℕ) × AllBelow rules base t p × P i p) → (n : ℕ) → n ≤ rules.count → Past P n
  past_all P each zero le = record { last = 0; below = record { each = λ k h. absurd (omega arith) }; past = λ i q. absurd (omega arith) }
  past_all P each (suc n) le = go (past_all P each n (omega arith)) (each n le)
    where
      older : (m last : ℕ) → last ≤ m → (i : ℕ) → (p : ℕ) × (p ≤ last) × P i p → (p : ℕ) × (p ≤ m) × P i p
      older m last h i x = (x.0, (let y = x.1 in omega arith), x.2)

      join : (w : Past P n) (m : ℕ) → AllBelow rules base t m → w.last ≤ m → (p : ℕ) × (p ≤ m) × P n p → Past P (suc n)
      join w m b h mine = record {
        last = m;
        below = b;
        past = λ i q. pick i q (same_or i n);
      }
        where
          pick : (i : ℕ) → i < suc n → (i ≡ n) ⊎ (i ≢ n) → (p : ℕ) × (p ≤ m) × P i p
          pick i q (inl e) = subst (λ x. (p : ℕ) × (p ≤ m) × P x p) (sym e) mine
          pick i q (inr ne) = older m w.last h i (w.past i (omega arith))

      order : (w : Past P n) (x : (p : ℕ) × AllBelow rules base t p × P n p) → (x.0 ≤ w.last) ⊎ (w.last ≤ x.0) → Past P (suc n)
      order w x (inl h) = join w w.last w.below (omega arith) (x.0, h, x.2)
      order w x (inr h) = join w x.0 x.1 h (x.0, (omega arith), x.2)

      go : Past P n → (p : ℕ) × AllBelow rules base t p × P n p → Past P (suc n)
      go w x = order w x (le_or x.0 w.last)

  -- a chip whose key is not below the end makes no move below it
  stays : (i p k : ℕ) → p ≤ k → AllBelow rules base t k → t ≤ (key_of rules (run rules base p) i).cycle → made rules base i k ≡ made rules base i p
  stays i p k h below late =
      climb rules base (λ j. AllBelow rules base t j → made rules base i j ≡ made rules base i p) p (λ _. refl)
      (λ j q ih b. go j b (ih (below-less rules base t j (suc j) b (omega arith))) (same_or (mover rules (run rules base j)) i)) k h below
    where
      go : (j : ℕ) → AllBelow rules base t (suc j) → made rules base i j ≡ made rules base i p → (mover rules (run rules base j) ≡ i) ⊎ (mover rules (run rules base j) ≢ i) → made rules base i (suc j) ≡ made rules base i p
      go j b same (inl at) = absurd (
          let low = subst (λ x. (key_of rules (run rules base j) x).cycle < t) at (b.each j (omega arith)) in
          let chip = ap (λ (c : Chip). (rules.next c).key.cycle) (chip-at rules base i p j same) in
          omega arith)
      go j b same (inr ne) = made-other rules base i j ne ∙ same

module _ {Chip Shared Pins : Type 0} (rules : Rules Chip Shared Pins) (chip_ok : Chip → Type 0) (shared_ok : Shared → Type 0) (law : Lawful rules chip_ok shared_ok) where
  pub is_run_to : (base : Seen Chip Shared) → IsValid rules chip_ok shared_ok base.machine → (t : ℕ) → t ≤ cycle_limit → (s : Seen Chip Shared) → IsTidy rules chip_ok shared_ok s
      → Stands rules base t s → IsQuiet rules s.machine t → IsRunTo rules base.machine t s.machine s.journal
  is_run_to base base_ok t small s tidy st quiet = record {
    moves = end.last;
    below = end.below;
    quiet = quiet;
    shared = held.shared ∙ sym (shared-stretch rules base.machine held.accesses end.last inside none);
    chips = λ i h. chip_is i h;
    journal = held.prefix ∙ sym (journal-stretch rules base.machine held.accesses end.last inside none);
  }
    where
      count : ℕ → ℕ
      count = st.0

      held : StandsFor rules base.machine base.bound t s.machine s.bound s.journal count
      held = st.1

      end : Past rules base.machine t (λ i p. (made rules base.machine i p ≡ count i) × (s.machine.chip i ≡ (run rules base.machine p).chip i)) rules.count
      end = past_all rules base.machine t (λ i p. (made rules base.machine i p ≡ count i) × (s.machine.chip i ≡ (run rules base.machine p).chip i))
          (λ i h. let p = held.path i h in (p.moves, p.below, (p.made, p.is))) rules.count (omega arith)

      made_is : (i : ℕ) → i < rules.count → made rules base.machine i end.last ≡ count i
      made_is i h =
          let p = end.past i h in
          let late = quiet i h in
          stays rules base.machine t i p.0 end.last p.1 end.below (subst (λ (c : Chip). t ≤ (rules.next c).key.cycle) p.2.1 late) ∙ p.2.0

      chip_is : (i : ℕ) → i < rules.count → s.machine.chip i ≡ (run rules base.machine end.last).chip i
      chip_is i h =
          let p = end.past i h in
          p.2.1 ∙ sym (chip-at rules base.machine i p.0 end.last (made_is i h ∙ sym p.2.0))

      inside : held.accesses ≤ end.last
      inside = go (cases_lt end.last held.accesses)
        where
          go : (end.last < held.accesses) ⊎ (held.accesses ≤ end.last) → held.accesses ≤ end.last
          go (inl lt) = absurd (
              let low = held.prefix_below.each end.last lt in
              let who = mover-in rules chip_ok shared_ok law (run rules base.machine end.last) in
              let late = quiet (mover rules (run rules base.machine end.last)) who in
              let same = ap (λ (c : Chip). (rules.next c).key.cycle) (chip_is (mover rules (run rules base.machine end.last)) who) in
              omega arith)
          go (inr le) = le

      none : (n : ℕ) → held.accesses ≤ n → n < end.last → is_sample rules (run rules base.machine n) (mover rules (run rules base.machine n)) ≡ false → ⊥
      none n from to access =
          let who = mover-in rules chip_ok shared_ok law (run rules base.machine n) in
          let past = past_count rules chip_ok shared_ok law base.machine base_ok t small base.bound s tidy count held n (mover rules (run rules base.machine n)) who from
          (below-less rules base.machine t (suc n) end.last end.below to) refl access in
          let more = made-mover rules base.machine (mover rules (run rules base.machine n)) n refl in
          let mono = made-mono rules base.machine (mover rules (run rules base.machine n)) (suc n) end.last to in
          let same = made_is (mover rules (run rules base.machine n)) who in
          omega arith
