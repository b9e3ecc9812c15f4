-- Each enabled event keeps what a core stands for, and that it is tidy.
use Rattle.std.proofs.Common.{◌≡◌, ◌≢◌, ℕ, ◌+◌, ◌*◌, ◌<◌, ◌≤◌, true, false, refl, sym, ◌∙◌, ap, subst, arith, inl, inr, List, [], ◌∷◌}
use Rattle.std.proofs.lemmas.Bool.Decides.{nat_tests}
use Rattle.std.proofs.lemmas.List.Elements.{All-nil, All-weaker}
use Rattle.md_word.specs.Clock.{cycle_limit}
use Rattle.md_word.specs.declared.event.Entry.{Entry}
use Rattle.md_word.specs.declared.key.Key.{Key}
use Rattle.md_word.specs.Keys.{key_lt}
use Rattle.chip_core.specs.declared.event.Event.{Event}
use Rattle.chip_core.specs.declared.event.Event.TheVariants.{Announce, Perform, Sample}
use Rattle.chip_core.specs.Chips.{Rules, Lawful}
use Rattle.chip_core.specs.Machines.{Machine, put, of_chip, key_of, move, run, AllBelow, IsValid}
use Rattle.chip_core.specs.Standing.{IsBound, StandsFor}
use Rattle.chip_core.specs.Events.{Seen, IsEnabled, left_bound, after, counted, Leads, Stands, IsTidy}
use Rattle.chip_core.proofs.Keys.{rank-not_lt, lt-through, put-each}
use Rattle.chip_core.proofs.Stages.{chip-other, key-rises, valid-move}
use Rattle.chip_core.proofs.Runs.{run-zero, journal-zero, made-zero, own-at, next_move, key-mono, run-valid}
use Rattle.chip_core.proofs.Stands.{stands_perform, stands_sample}

module _ {Chip Shared Pins : Type 0} (rules : Rules Chip Shared Pins) (chip_ok : Chip → Type 0) (shared_ok : Shared → Type 0) (law : Lawful rules chip_ok shared_ok) where
  -- enabled below an end is enabled below a later one
  pub enabled-wider : (s : Seen Chip Shared) (t u : ℕ) → t ≤ u → (e : Event) → IsEnabled rules s t e → IsEnabled rules s u e
  enabled-wider s t u le (Announce i) en = en
  enabled-wider s t u le (Perform i) en = (en.0, en.1, (let low = en.2 in omega arith), en.3)
  enabled-wider s t u le (Sample i) en = (en.0, en.1, (let low = en.2 in omega arith), en.3)

  pub key-itself : (k : Key) → key_lt k k ≡ false
  key-itself k = grind (arith, nat_tests)

  pub tidy_announce : (s : Seen Chip Shared) → IsTidy rules chip_ok shared_ok s → (i : ℕ) → i < rules.count → IsTidy rules chip_ok shared_ok (after rules s (Announce i))
  tidy_announce s tidy i h = record {
    valid = tidy.valid;
    bound_number = λ j q. put-each (λ n b. b.chip ≡ n) s.bound i (key_of rules s.machine i) j (λ _. tidy.valid.number i h) (λ _. tidy.bound_number j q);
    under = λ j q. put-each (λ n b. key_lt (key_of rules s.machine n) b ≡ false) s.bound i (key_of rules s.machine i) j (λ _. key-itself (key_of rules s.machine i)) (λ _. tidy.under j q);
  }

  -- what an access and a sample have in common
  pub tidy_move : (s : Seen Chip Shared) → IsTidy rules chip_ok shared_ok s → (i : ℕ) → i < rules.count → (key_of rules s.machine i).cycle < cycle_limit → (entered : List Entry)
      → IsTidy rules chip_ok shared_ok (record { machine = move rules s.machine i; bound = put s.bound i (left_bound rules s.machine i); journal = entered })
  tidy_move s tidy i h low entered = record {
    valid = moved;
    bound_number = λ j q. put-each (λ n b. b.chip ≡ n) s.bound i (left_bound rules s.machine i) j (λ _. refl) (λ _. tidy.bound_number j q);
    under = λ j q. put-each (λ n b. key_lt (key_of rules (move rules s.machine i) n) b ≡ false) s.bound i (left_bound rules s.machine i) j (λ _. own)
        (λ ne. subst (λ (c : Chip). key_lt (rules.next c).key (s.bound j) ≡ false) (sym (chip-other rules s.machine i j ne)) (tidy.under j q));
  }
    where
      moved : IsValid rules chip_ok shared_ok (move rules s.machine i)
      moved = valid-move rules chip_ok shared_ok law s.machine tidy.valid i h low

      own : key_lt (key_of rules (move rules s.machine i) i) (left_bound rules s.machine i) ≡ false
      own =
          let rise = key-rises rules chip_ok shared_ok law s.machine tidy.valid i h low in
          let number = moved.number i h in
          let few = law.few in
          rank-not_lt (key_of rules (move rules s.machine i) i) (left_bound rules s.machine i) (omega arith) (omega arith) (omega arith)

  -- each enabled event leaves a tidy core
  pub tidy-after : (s : Seen Chip Shared) → IsTidy rules chip_ok shared_ok s → (e : Event) → IsEnabled rules s cycle_limit e → IsTidy rules chip_ok shared_ok (after rules s e)
  tidy-after s tidy (Announce i) en = tidy_announce s tidy i en.0
  tidy-after s tidy (Perform i) en = tidy_move s tidy i en.0 en.2 (after rules s (Perform i)).journal
  tidy-after s tidy (Sample i) en = tidy_move s tidy i en.0 en.2 s.journal

  module _ (base : Machine Chip Shared) (base_ok : IsValid rules chip_ok shared_ok base) (t : ℕ) (small : t ≤ cycle_limit) (opening : ℕ → Key) where
    stands_announce : (s : Seen Chip Shared) → IsTidy rules chip_ok shared_ok s → (count : ℕ → ℕ) → StandsFor rules base opening t s.machine s.bound s.journal count → (i : ℕ) → i < rules.count
        → StandsFor rules base opening t s.machine (put s.bound i (key_of rules s.machine i)) s.journal count
    stands_announce s tidy count st i h = record {
      path = st.path;
      accesses = st.accesses;
      prefix_below = st.prefix_below;
      prefix = st.prefix;
      shared = st.shared;
      own = st.own;
      bounds = λ j q. put-each (λ n b. IsBound rules base opening n (count n) (key_of rules s.machine n) b) s.bound i (key_of rules s.machine i) j (λ _. inl refl) (λ _. st.bounds j q);
      ahead = All-weaker (λ (e : Entry). (j : ℕ) → j < rules.count → j ≢ e.key.chip → key_lt e.key (s.bound j) ≡ true)
          (λ (e : Entry). (j : ℕ) → j < rules.count → j ≢ e.key.chip → key_lt e.key (put s.bound i (key_of rules s.machine i) j) ≡ true)
          (λ e before j q ne. put-each (λ n b. key_lt e.key b ≡ true) s.bound i (key_of rules s.machine i) j
          (λ same. lt-through e.key (s.bound i) (key_of rules s.machine i) (subst (λ n. key_lt e.key (s.bound n) ≡ true) same (before j q ne)) (tidy.under i h))
          (λ _. before j q ne)) s.journal st.ahead;
    }

    pub stands_move : (s : Seen Chip Shared) → IsTidy rules chip_ok shared_ok s → (count : ℕ → ℕ) → StandsFor rules base opening t s.machine s.bound s.journal count → (e : Event) → IsEnabled rules s t e
        → StandsFor rules base opening t (after rules s e).machine (after rules s e).bound (after rules s e).journal (counted count e)
    stands_move s tidy count st (Announce i) en = stands_announce s tidy count st i en.0
    stands_move s tidy count st (Perform i) en =
        let p = st.path i en.0 in
        let next = next_move rules chip_ok shared_ok law base base_ok t small p.moves i (count i) en.0 p.below p.made (subst (λ (c : Chip). (rules.next c).key.cycle < t) p.is en.2) in
        stands_perform rules chip_ok shared_ok law base base_ok t small opening s tidy count st i en.0 next.stage next.below next.mover next.made en.1 en.3
    stands_move s tidy count st (Sample i) en =
        let p = st.path i en.0 in
        let next = next_move rules chip_ok shared_ok law base base_ok t small p.moves i (count i) en.0 p.below p.made (subst (λ (c : Chip). (rules.next c).key.cycle < t) p.is en.2) in
        stands_sample rules chip_ok shared_ok law base base_ok t small opening s tidy count st i en.0 next.stage next.below next.mover next.made en.1 en.3

    -- a core with an empty journal stands for itself
    pub stands_first : StandsFor rules base opening t base opening [] (λ i. 0)
    stands_first = record {
      path = λ i h. record { moves = 0; below = none; made = made-zero rules base i; is = ap (λ (m : Machine Chip Shared). m.chip i) (sym (run-zero rules base)) };
      accesses = 0;
      prefix_below = none;
      prefix = sym (journal-zero rules base);
      shared = ap (λ (m : Machine Chip Shared). m.shared) (sym (run-zero rules base));
      own = λ i n h below made. ap (of_chip i) (sym (journal-zero rules base)) ∙ sym (own-at rules chip_ok shared_ok law base base_ok t small i 0 n none below (made ∙ sym (made-zero rules base i)));
      bounds = λ i h. inr (inl (refl, refl));
      ahead = All-nil (λ (e : Entry). (j : ℕ) → j < rules.count → j ≢ e.key.chip → key_lt e.key (opening j) ≡ true);
    }
      where
        none : AllBelow rules base t 0
        none = record { each = λ k h. absurd (omega arith) }

  -- each enabled event keeps what the core stands for
  pub stands-after : (base : Seen Chip Shared) → IsValid rules chip_ok shared_ok base.machine → (t : ℕ) → t ≤ cycle_limit → (s : Seen Chip Shared) → IsTidy rules chip_ok shared_ok s → (e : Event) → IsEnabled rules s t e
      → Stands rules base t s → Stands rules base t (after rules s e)
  stands-after base base_ok t small s tidy e en st = (counted st.0 e, stands_move base.machine base_ok t small base.bound s tidy st.0 st.1 e en)

  -- and so does a list of them
  pub tidy-leads : (t : ℕ) → t ≤ cycle_limit → (s : Seen Chip Shared) → IsTidy rules chip_ok shared_ok s → (es : List Event) (z : Seen Chip Shared) → Leads rules t s es z → IsTidy rules chip_ok shared_ok z
  tidy-leads t small s tidy [] z l = subst (λ (w : Seen Chip Shared). IsTidy rules chip_ok shared_ok w) (sym l) tidy
  tidy-leads t small s tidy (e ∷ es) z l = tidy-leads t small (after rules s e) (tidy-after s tidy e (enabled-wider s t cycle_limit small e l.0)) es z l.1

  pub stands-leads : (base : Seen Chip Shared) → IsValid rules chip_ok shared_ok base.machine → (t : ℕ) → t ≤ cycle_limit → (s : Seen Chip Shared) → IsTidy rules chip_ok shared_ok s → (es : List Event) (z : Seen Chip Shared)
      → Leads rules t s es z → Stands rules base t s → Stands rules base t z
  stands-leads base base_ok t small s tidy [] z l st = subst (λ (w : Seen Chip Shared). Stands rules base t w) (sym l) st
  stands-leads base base_ok t small s tidy (e ∷ es) z l st =
      stands-leads base base_ok t small (after rules s e) (tidy-after s tidy e (enabled-wider s t cycle_limit small e l.0)) es z l.1 (stands-after base base_ok t small s tidy e l.0 st)

  -- no chip of the core is before its place in the base
  pub keys-later : (base : Seen Chip Shared) → IsValid rules chip_ok shared_ok base.machine → (t : ℕ) → t ≤ cycle_limit → (s : Seen Chip Shared) → Stands rules base t s → (i : ℕ) → i < rules.count
      → (key_of rules base.machine i).cycle ≤ (key_of rules s.machine i).cycle
  keys-later base base_ok t small s st i h =
      let p = st.1.path i h in
      let first : key_of rules (run rules base.machine 0) i ≡ key_of rules base.machine i = ap (λ (m : Machine Chip Shared). key_of rules m i) (run-zero rules base.machine) in
      let start = ap (λ (k : Key). 8 * k.cycle + k.chip) first in
      let mono = key-mono rules chip_ok shared_ok law base.machine base_ok t small i 0 p.moves h (omega arith) p.below in
      let before = base_ok.number i h in
      let after = (run-valid rules chip_ok shared_ok law base.machine base_ok t small p.moves p.below).number i h in
      let now = ap (λ (c : Chip). (rules.next c).key.cycle) p.is in
      omega arith
