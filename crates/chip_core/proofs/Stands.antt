-- Each event keeps what a core stands for, and a core without a key below the end is the one that
-- the run leads to.
use Rattle.std.proofs.Common.{◌≡◌, ◌≢◌, ℕ, suc, ◌+◌, ◌<◌, ◌≤◌, Bool, true, false, ◌==◌, refl, sym, ◌∙◌, ap, ap₂, subst, arith, ◌⊎◌, inl, inr, List, [], ◌∷◌, ◌++◌, length, append-nil, All, true≢false}
use Rattle.std.proofs.lemmas.Bool.{cases_lt}
use Rattle.std.proofs.lemmas.List.Elements.{filter-append, All-push, All-weaker}
use Rattle.md_word.specs.Clock.{cycle_limit}
use Rattle.md_word.specs.declared.event.Entry.{Entry}
use Rattle.md_word.specs.declared.key.Key.{Key}
use Rattle.md_word.specs.Keys.{key_lt}
use Rattle.chip_core.specs.Chips.{Accessed, Rules, Lawful}
use Rattle.chip_core.specs.Machines.{Machine, put, of_chip, key_of, is_sample, accessed, move, entries, mover, run, journal, made, move_key, AllBelow, OnPath, IsValid}
use Rattle.chip_core.specs.Standing.{IsLeft, IsBound, StandsFor}
use Rattle.chip_core.specs.Events.{Seen, looks_at, IsBelowAll, IsBelowLooked, left_bound, IsTidy}
use Rattle.chip_core.proofs.Keys.{rank, by_test, same_or, le_or, key_lt-rank, not_lt-rank, rank-not_lt, lt-later, put-same, put-other}
use Rattle.chip_core.proofs.Stages.{chip-sample, chip-access, chip-other, shared-sample, shared-access, entries-sample, entries-access, number-small, entry-key, entries-other, mover-in}
use Rattle.chip_core.proofs.Runs.{run-suc, journal-suc, made-mover, made-mono, below-less, chip-at, own-suc, own-mono, shared-stretch, journal-stretch, entry-of-all, run-valid, key-by-made, move_key-mono, own-access, own-at, own-by-made, pins-stretch}

-- a sample looks at the bounds of all that write its pins
pub looks : {Chip Shared Pins : Type 0} (rules : Rules Chip Shared Pins) (j i : ℕ) → rules.writes j i ≡ true → looks_at rules j i ≡ true
looks rules j i w = w

module _ {Chip Shared Pins : Type 0} (rules : Rules Chip Shared Pins) (chip_ok : Chip → Type 0) (shared_ok : Shared → Type 0) (law : Lawful rules chip_ok shared_ok)
    (base : Machine Chip Shared) (base_ok : IsValid rules chip_ok shared_ok base) (t : ℕ) (small : t ≤ cycle_limit) (opening : ℕ → Key)
    (s : Seen Chip Shared) (tidy : IsTidy rules chip_ok shared_ok s) (count : ℕ → ℕ)
    (st : StandsFor rules base opening t s.machine s.bound s.journal count) where
  bound-small : (i : ℕ) → i < rules.count → (s.bound i).chip < 8
  bound-small i h = let e = tidy.bound_number i h in let f = law.few in omega arith

  -- an access in the journal is among the moves that its chip has made
  pub in_count : (n i : ℕ) → i < rules.count → n < st.accesses → mover rules (run rules base n) ≡ i → is_sample rules (run rules base n) (mover rules (run rules base n)) ≡ false
      → made rules base i n < count i
  in_count n i h inside at access = go (cases_lt (made rules base i n) (count i))
    where
      go : (made rules base i n < count i) ⊎ (count i ≤ made rules base i n) → made rules base i n < count i
      go (inl lt) = lt
      go (inr le) = absurd (
          let p = st.path i h in
          let pm = p.made in
          let held = ap (λ es. length (of_chip i es)) st.prefix in
          let own = ap length (st.own i p.moves h p.below p.made) in
          let one = own-access rules chip_ok shared_ok law base base_ok t small i n (below-less rules base t (suc n) st.accesses st.prefix_below inside) at access in
          let mono = own-mono rules base i (suc n) st.accesses inside in
          let fewer = own-by-made rules chip_ok shared_ok law base base_ok t small i p.moves n p.below (below-less rules base t n st.accesses st.prefix_below (omega arith)) (omega arith) in
          omega arith)

  -- an access that the journal lacks is past the moves that its chip has made
  pub past_count : (n i : ℕ) → i < rules.count → st.accesses ≤ n → AllBelow rules base t (suc n) → mover rules (run rules base n) ≡ i
      → is_sample rules (run rules base n) (mover rules (run rules base n)) ≡ false → count i ≤ made rules base i n
  past_count n i h outside below at access = go (cases_lt (made rules base i n) (count i))
    where
      go : (made rules base i n < count i) ⊎ (count i ≤ made rules base i n) → count i ≤ made rules base i n
      go (inl lt) = absurd (
          let p = st.path i h in
          let pm = p.made in
          let held = ap (λ es. length (of_chip i es)) st.prefix in
          let own = ap length (st.own i p.moves h p.below p.made) in
          let more = made-mover rules base i n at in
          let one = own-access rules chip_ok shared_ok law base base_ok t small i n below at access in
          let mono = own-mono rules base i st.accesses n outside in
          let fewer = own-by-made rules chip_ok shared_ok law base base_ok t small i (suc n) p.moves below p.below (omega arith) in
          omega arith)
      go (inr le) = le

  -- chip i is what it is at any stage where it has made as many moves
  here : (i : ℕ) → i < rules.count → (n : ℕ) → made rules base i n ≡ count i → s.machine.chip i ≡ (run rules base n).chip i
  here i h n e =
      let p = st.path i h in
      p.is ∙ sym (chip-at rules base i p.moves n (e ∙ sym p.made))

  -- where chip i's next move has this stage
  module _ (i : ℕ) (h : i < rules.count) (k : ℕ) (below : AllBelow rules base t (suc k)) (at : mover rules (run rules base k) ≡ i) (so_far : made rules base i k ≡ count i) where
    key-here : key_of rules s.machine i ≡ move_key rules base k
    key-here = ap (λ (c : Chip). (rules.next c).key) (here i h k so_far) ∙ ap (key_of rules (run rules base k)) (sym at)

    -- no access of a later stage is in the journal
    late : (n : ℕ) → k ≤ n → n < st.accesses → is_sample rules (run rules base n) (mover rules (run rules base n)) ≡ false → ⊥
    late n from to access = go (same_or (mover rules (run rules base n)) i)
      where
        below_n : AllBelow rules base t n
        below_n = below-less rules base t n st.accesses st.prefix_below (omega arith)

        who_in : mover rules (run rules base n) < rules.count
        who_in = mover-in rules chip_ok shared_ok law (run rules base n)

        go : (mover rules (run rules base n) ≡ i) ⊎ (mover rules (run rules base n) ≢ i) → ⊥
        go (inl same) =
            let c = in_count n i h to same access in
            let mono = made-mono rules base i k n from in
            omega arith
        go (inr ne) =
            let valid = run-valid rules chip_ok shared_ok law base base_ok t small n below_n in
            let low = st.prefix_below.each n to in
            let key = entry-key rules chip_ok shared_ok law (run rules base n) valid (mover rules (run rules base n)) who_in (omega arith) access in
            let number = ap (λ (w : Key). w.chip) key ∙ valid.number (mover rules (run rules base n)) who_in in
            let ahead = entry-of-all rules base (λ (e : Entry). (j : ℕ) → j < rules.count → j ≢ e.key.chip → key_lt e.key (s.bound j) ≡ true) st.accesses n to access
            (subst (λ es. All (λ (e : Entry). (j : ℕ) → j < rules.count → j ≢ e.key.chip → key_lt e.key (s.bound j) ≡ true) es) st.prefix st.ahead) in
            let lt = subst (λ w. key_lt w (s.bound i) ≡ true) key (ahead i h (λ same. ne (sym (same ∙ number)))) in
            let above = key_lt-rank (move_key rules base n) (s.bound i) (number-small rules chip_ok shared_ok law (run rules base n) valid (mover rules (run rules base n)) who_in) (bound-small i h) lt in
            let under = not_lt-rank (key_of rules s.machine i) (s.bound i) (number-small rules chip_ok shared_ok law s.machine tidy.valid i h) (bound-small i h) (tidy.under i h) in
            let order = move_key-mono rules chip_ok shared_ok law base base_ok t small k n from below_n in
            let same = ap rank key-here in
            omega arith

    -- an access of an earlier stage that the journal lacks is of another chip, whose bound is not
    -- above chip i's key
    early : (n : ℕ) → st.accesses ≤ n → n < k → is_sample rules (run rules base n) (mover rules (run rules base n)) ≡ false
        → (mover rules (run rules base n) ≢ i) × (key_lt (key_of rules s.machine i) (s.bound (mover rules (run rules base n))) ≡ false)
    early n from to access = (apart, following)
      where
        who : ℕ
        who = mover rules (run rules base n)

        who_in : mover rules (run rules base n) < rules.count
        who_in = mover-in rules chip_ok shared_ok law (run rules base n)

        below_n : AllBelow rules base t (suc n)
        below_n = below-less rules base t (suc n) (suc k) below (omega arith)

        lacks : count (mover rules (run rules base n)) ≤ made rules base (mover rules (run rules base n)) n
        lacks = past_count n (mover rules (run rules base n)) who_in from below_n refl access

        apart : mover rules (run rules base n) ≢ i
        apart same =
            let l = subst (λ j. count j ≤ made rules base j n) same lacks in
            let more = made-mover rules base i n same in
            let mono = made-mono rules base i (suc n) k to in
            omega arith

        following : key_lt (key_of rules s.machine i) (s.bound (mover rules (run rules base n))) ≡ false
        following =
            let p = st.path (mover rules (run rules base n)) who_in in
            let pm = p.made in
            let few = lacks in
            let before = key-by-made rules chip_ok shared_ok law base base_ok t small (mover rules (run rules base n)) p.moves n who_in p.below (below-less rules base t n (suc n) below_n (omega arith)) (omega arith) in
            let now = ap (λ (c : Chip). rank (rules.next c).key) p.is in
            let under = not_lt-rank (key_of rules s.machine (mover rules (run rules base n))) (s.bound (mover rules (run rules base n)))
            (number-small rules chip_ok shared_ok law s.machine tidy.valid (mover rules (run rules base n)) who_in) (bound-small (mover rules (run rules base n)) who_in) (tidy.under (mover rules (run rules base n)) who_in) in
            let order = move_key-mono rules chip_ok shared_ok law base base_ok t small n k (omega arith) (below-less rules base t k (suc k) below (omega arith)) in
            let same = ap rank key-here in
            rank-not_lt (key_of rules s.machine i) (s.bound (mover rules (run rules base n))) (number-small rules chip_ok shared_ok law s.machine tidy.valid i h) (bound-small (mover rules (run rules base n)) who_in) (omega arith)

    -- with every other bound above its key, the chip finds shared state and journal of its stage
    in_turn : IsBelowAll rules s i → (s.machine.shared ≡ (run rules base k).shared) × (s.journal ≡ journal rules base k)
    in_turn above = go (le_or st.accesses k)
      where
        none : (n : ℕ) → st.accesses ≤ n → n < k → is_sample rules (run rules base n) (mover rules (run rules base n)) ≡ false → ⊥
        none n from to access =
            let e = early n from to access in
            true≢false (sym (above (mover rules (run rules base n)) (mover-in rules chip_ok shared_ok law (run rules base n)) e.0) ∙ e.1)

        go : (st.accesses ≤ k) ⊎ (k ≤ st.accesses) → (s.machine.shared ≡ (run rules base k).shared) × (s.journal ≡ journal rules base k)
        go (inl q) = (st.shared ∙ sym (shared-stretch rules base st.accesses k q none), st.prefix ∙ sym (journal-stretch rules base st.accesses k q none))
        go (inr q) = (st.shared ∙ shared-stretch rules base k st.accesses q late, st.prefix ∙ journal-stretch rules base k st.accesses q late)

    -- with the bounds above its key that its sample looks at, it finds the pins of its stage
    same_pins : IsBelowLooked rules s i → rules.pins s.machine.shared i ≡ rules.pins (run rules base k).shared i
    same_pins above = go (le_or st.accesses k)
      where
        none : (n : ℕ) → st.accesses ≤ n → n < k → is_sample rules (run rules base n) (mover rules (run rules base n)) ≡ false → rules.writes (mover rules (run rules base n)) i ≡ false
        none n from to access =
            let e = early n from to access in
            by_test (rules.writes (mover rules (run rules base n)) i)
            (λ w. absurd (true≢false (sym (above (mover rules (run rules base n)) (mover-in rules chip_ok shared_ok law (run rules base n)) e.0 (looks rules (mover rules (run rules base n)) i w)) ∙ e.1)))
            (λ w. w)

        go : (st.accesses ≤ k) ⊎ (k ≤ st.accesses) → rules.pins s.machine.shared i ≡ rules.pins (run rules base k).shared i
        go (inl q) = ap (λ w. rules.pins w i) st.shared ∙ sym (pins-stretch rules chip_ok shared_ok law base base_ok t small i st.accesses k q (below-less rules base t k (suc k) below (omega arith)) none)
        go (inr q) = ap (λ w. rules.pins w i) (st.shared ∙ shared-stretch rules base k st.accesses q late)

    -- the counts after chip i's move
    abbrev pub count_next : ℕ → ℕ
    count_next = put count i (count i + 1)

    abbrev pub bound_next : ℕ → Key
    bound_next = put s.bound i (left_bound rules s.machine i)

    -- what an access and a sample have in common
    stands_next : (w : Machine Chip Shared) (entered : List Entry) (accesses : ℕ) → w.chip i ≡ (run rules base (suc k)).chip i → ((j : ℕ) → j ≢ i → w.chip j ≡ s.machine.chip j)
        → AllBelow rules base t accesses → entered ≡ journal rules base accesses → w.shared ≡ (run rules base accesses).shared
        → of_chip i entered ≡ of_chip i (journal rules base (suc k)) → ((j : ℕ) → j ≢ i → of_chip j entered ≡ of_chip j s.journal)
        → All (λ (e : Entry). (j : ℕ) → j < rules.count → j ≢ e.key.chip → key_lt e.key (bound_next j) ≡ true) entered
        → StandsFor rules base opening t w bound_next entered count_next
    stands_next w held accesses moved others bound_a prefix shared own_i own_others ahead = record {
      path = λ j q. path_j j q (same_or j i);
      accesses = accesses;
      prefix_below = bound_a;
      prefix = prefix;
      shared = shared;
      own = λ j n q b e. own_j j n q b e (same_or j i);
      bounds = λ j q. bounds_j j q (same_or j i);
      ahead = ahead;
    }
      where
        more : made rules base i (suc k) ≡ count i + 1
        more = made-mover rules base i k at ∙ ap (λ n. n + 1) so_far

        count-i : count_next i ≡ count i + 1
        count-i = put-same count i (count i + 1)

        count-j : (j : ℕ) → j ≢ i → count_next j ≡ count j
        count-j j ne = put-other count i (count i + 1) j ne

        path_j : (j : ℕ) → j < rules.count → (j ≡ i) ⊎ (j ≢ i) → OnPath rules base t j (count_next j) (w.chip j)
        path_j j q (inl e) = subst (λ n. OnPath rules base t n (count_next n) (w.chip n)) (sym e) (record { moves = suc k; below = below; made = more ∙ sym count-i; is = moved })
        path_j j q (inr ne) = let p = st.path j q in record { moves = p.moves; below = p.below; made = p.made ∙ sym (count-j j ne); is = others j ne ∙ p.is }

        own_j : (j n : ℕ) → j < rules.count → AllBelow rules base t n → made rules base j n ≡ count_next j → (j ≡ i) ⊎ (j ≢ i) → of_chip j held ≡ of_chip j (journal rules base n)
        own_j j n q b e (inl same) =
            subst (λ x. of_chip x held ≡ of_chip x (journal rules base n)) (sym same)
            (own_i ∙ own-at rules chip_ok shared_ok law base base_ok t small i n (suc k) b below (more ∙ sym count-i ∙ sym (subst (λ x. made rules base x n ≡ count_next x) same e)))
        own_j j n q b e (inr ne) = own_others j ne ∙ st.own j n q b (e ∙ count-j j ne)

        left : IsLeft rules base i (count i + 1) (left_bound rules s.machine i)
        left = record { moves = k; mover = at; made = ap (λ n. n + 1) so_far; cycle = ap (λ (x : Key). x.cycle + rules.gap i) key-here; number = refl }

        bounds_j : (j : ℕ) → j < rules.count → (j ≡ i) ⊎ (j ≢ i) → IsBound rules base opening j (count_next j) (key_of rules w j) (bound_next j)
        bounds_j j q (inl e) =
            subst (λ n. IsBound rules base opening n (count_next n) (key_of rules w n) (bound_next n)) (sym e)
            (inr (inr (subst (λ n. IsLeft rules base i n (bound_next i)) (sym count-i) (subst (λ b. IsLeft rules base i (count i + 1) b) (sym (put-same s.bound i (left_bound rules s.machine i))) left))))
        bounds_j j q (inr ne) =
            subst (λ b. IsBound rules base opening j (count_next j) (key_of rules w j) b) (sym (put-other s.bound i (left_bound rules s.machine i) j ne))
            (subst (λ n. IsBound rules base opening j n (key_of rules w j) (s.bound j)) (sym (count-j j ne))
            (subst (λ (c : Chip). IsBound rules base opening j (count j) (rules.next c).key (s.bound j)) (sym (others j ne)) (st.bounds j q)))

    -- the new bound is above the old one, so the entries stay below
    ahead_next : All (λ (e : Entry). (j : ℕ) → j < rules.count → j ≢ e.key.chip → key_lt e.key (bound_next j) ≡ true) s.journal
    ahead_next =
        All-weaker (λ (e : Entry). (j : ℕ) → j < rules.count → j ≢ e.key.chip → key_lt e.key (s.bound j) ≡ true)
        (λ (e : Entry). (j : ℕ) → j < rules.count → j ≢ e.key.chip → key_lt e.key (bound_next j) ≡ true)
        (λ e before j q ne. go e j q (before j q ne) (same_or j i)) s.journal st.ahead
      where
        go : (e : Entry) (j : ℕ) → j < rules.count → key_lt e.key (s.bound j) ≡ true → (j ≡ i) ⊎ (j ≢ i) → key_lt e.key (bound_next j) ≡ true
        go e j q lt (inl same) =
            let some = law.gap_some i h in
            let later : (key_of rules s.machine i).cycle < (left_bound rules s.machine i).cycle = omega arith in
            subst (λ n. key_lt e.key (bound_next n) ≡ true) (sym same)
            (subst (λ b. key_lt e.key b ≡ true) (sym (put-same s.bound i (left_bound rules s.machine i)))
            (lt-later e.key (s.bound i) (key_of rules s.machine i) (left_bound rules s.machine i) (subst (λ n. key_lt e.key (s.bound n) ≡ true) same lt) (tidy.under i h) later))
        go e j q lt (inr ne) = subst (λ b. key_lt e.key b ≡ true) (sym (put-other s.bound i (left_bound rules s.machine i) j ne)) lt

    sample-here : (b : Bool) → is_sample rules s.machine i ≡ b → is_sample rules (run rules base k) i ≡ b
    sample-here b e = ap (λ (c : Chip). (rules.next c).sample) (sym (here i h k so_far)) ∙ e

    run-here : run rules base (suc k) ≡ move rules (run rules base k) i
    run-here = run-suc rules base k ∙ ap (move rules (run rules base k)) at

    pub stands_perform : is_sample rules s.machine i ≡ false → IsBelowAll rules s i
        → StandsFor rules base opening t (move rules s.machine i) bound_next (s.journal ++ (accessed rules s.machine i).entry ∷ []) count_next
    stands_perform access above =
        stands_next (move rules s.machine i) (s.journal ++ (accessed rules s.machine i).entry ∷ []) (suc k)
        (chip-access rules s.machine i access ∙ ap (λ (a : Accessed Chip Shared). rules.advance a.chip) same_access ∙ sym (chip-access rules (run rules base k) i access_k)
        ∙ ap (λ (w : Machine Chip Shared). w.chip i) (sym run-here))
        (λ j ne. chip-other rules s.machine i j ne) below held
        (shared-access rules s.machine i access ∙ ap (λ (a : Accessed Chip Shared). a.shared) same_access ∙ sym (shared-access rules (run rules base k) i access_k)
        ∙ ap (λ (w : Machine Chip Shared). w.shared) (sym run-here))
        (ap (of_chip i) held) others
        (All-push (λ (e : Entry). (j : ℕ) → j < rules.count → j ≢ e.key.chip → key_lt e.key (bound_next j) ≡ true) s.journal (accessed rules s.machine i).entry ahead_next own_ahead)
      where
        turn : (s.machine.shared ≡ (run rules base k).shared) × (s.journal ≡ journal rules base k)
        turn = in_turn above

        access_k : is_sample rules (run rules base k) i ≡ false
        access_k = sample-here false access

        same_access : accessed rules s.machine i ≡ accessed rules (run rules base k) i
        same_access = ap₂ rules.perform (here i h k so_far) turn.0

        entry_k : entries rules (run rules base k) (mover rules (run rules base k)) ≡ (accessed rules s.machine i).entry ∷ []
        entry_k =
            ap (entries rules (run rules base k)) at ∙ entries-access rules (run rules base k) i access_k
            ∙ ap (λ (a : Accessed Chip Shared). a.entry ∷ []) (sym same_access)

        held : s.journal ++ (accessed rules s.machine i).entry ∷ [] ≡ journal rules base (suc k)
        held = sym (journal-suc rules base k ∙ ap₂ (λ xs ys. xs ++ ys) (sym turn.1) entry_k)

        low : (key_of rules s.machine i).cycle < cycle_limit
        low = let l = below.each k (omega arith) in subst (λ (w : Key). w.cycle < cycle_limit) (sym key-here) (omega arith)

        key : (accessed rules s.machine i).entry.key ≡ key_of rules s.machine i
        key = entry-key rules chip_ok shared_ok law s.machine tidy.valid i h low access

        others : (j : ℕ) → j ≢ i → of_chip j (s.journal ++ (accessed rules s.machine i).entry ∷ []) ≡ of_chip j s.journal
        others j ne =
            filter-append (λ (e : Entry). e.key.chip == j) s.journal ((accessed rules s.machine i).entry ∷ [])
            ∙ ap (λ es. of_chip j s.journal ++ es) (ap (of_chip j) (sym (entries-access rules s.machine i access)) ∙ entries-other rules chip_ok shared_ok law s.machine tidy.valid i j h low ne)
            ∙ append-nil (of_chip j s.journal)

        own_ahead : (j : ℕ) → j < rules.count → j ≢ (accessed rules s.machine i).entry.key.chip → key_lt (accessed rules s.machine i).entry.key (bound_next j) ≡ true
        own_ahead j q ne =
            let apart : j ≢ i = λ same. ne (same ∙ sym (tidy.valid.number i h) ∙ ap (λ (w : Key). w.chip) (sym key)) in
            subst (λ w. key_lt w (bound_next j) ≡ true) (sym key)
            (subst (λ b. key_lt (key_of rules s.machine i) b ≡ true) (sym (put-other s.bound i (left_bound rules s.machine i) j apart)) (above j q apart))

    pub stands_sample : is_sample rules s.machine i ≡ true → IsBelowLooked rules s i
        → StandsFor rules base opening t (move rules s.machine i) bound_next s.journal count_next
    stands_sample sample above =
        stands_next (move rules s.machine i) s.journal st.accesses
        (chip-sample rules s.machine i sample ∙ ap₂ rules.sample (here i h k so_far) (same_pins above) ∙ sym (chip-sample rules (run rules base k) i (sample-here true sample))
        ∙ ap (λ (w : Machine Chip Shared). w.chip i) (sym run-here))
        (λ j ne. chip-other rules s.machine i j ne) st.prefix_below st.prefix
        (shared-sample rules s.machine i sample ∙ st.shared)
        own (λ j ne. refl) ahead_next
      where
        own : of_chip i s.journal ≡ of_chip i (journal rules base (suc k))
        own =
            st.own i k h (below-less rules base t k (suc k) below (omega arith)) so_far
            ∙ sym (own-suc rules base i k
            ∙ ap (λ es. of_chip i (journal rules base k) ++ of_chip i es) (ap (entries rules (run rules base k)) at ∙ entries-sample rules (run rules base k) i (sample-here true sample))
            ∙ append-nil (of_chip i (journal rules base k)))
