-- A section first counts the samples that the chip made under its lease, and announces its next event.
use Rattle.std.proofs.Common.{◌≡◌, ◌≢◌, ℕ, zero, suc, ◌+◌, ◌-◌, ◌<◌, ◌≤◌, true, false, refl, sym, ◌∙◌, ap, subst, arith, ◌⊎◌, inl, inr, List, ◌++◌, length, append-nil, length-set, slice_set}
use Rattle.std.proofs.lemmas.Bool.{cases_lt}
use Rattle.std.proofs.lemmas.Bool.Decides.{nat_tests}
use Rattle.std.proofs.lemmas.List.Elements.{All-weaker}
use Rattle.md_word.specs.declared.event.Entry.{Entry}
use Rattle.md_word.specs.declared.key.Key.{Key}
use Rattle.md_word.specs.Keys.{key_lt}
use Rattle.chip_core.specs.Chips.{Rules, Lawful}
use Rattle.chip_core.specs.Cores.{CoreValue, bound_in, machine_of, seen}
use Rattle.chip_core.specs.Equations.{entries-sample, made-mover, made-other, made-zero, put-same, put-other, same_or}
use Rattle.chip_core.specs.Events.{IsTidy}
use Rattle.chip_core.specs.Machines.{AllBelow, Machine, OnPath, IsValid, entries, journal, key_of, made, mover, of_chip, put, run}
use Rattle.chip_core.specs.Standing.{IsBound, StandsFor}
use Rattle.chip_core.proofs.Keys.{lt-through, not_lt-rank, put-each, rank, rank-not_lt}
use Rattle.chip_core.proofs.Lists.{set-put, valid-core}
use Rattle.chip_core.proofs.Runs.{below-less, key-by-made, own-at, own-suc, run-valid}
use Rattle.chip_run.specs.Held.{AreSamples}
use Rattle.chip_run.specs.Locked.{IsLocked, count_of}
use Rattle.chip_run.specs.Parts.{PartsValue}
use Rattle.chip_run.specs.Steps.{announced}
use Rattle.chip_run.proofs.CoreSteps.{bounds-announced}

key-itself : (k : Key) → key_lt k k ≡ false
key-itself k = grind (arith, nat_tests)

module _ {Chip Shared Pins : Type 0} (rules : Rules Chip Shared Pins) (chip_ok : Chip → Type 0) (shared_ok : Shared → Type 0) (law : Lawful rules chip_ok shared_ok)
    (base : CoreValue Chip Shared) (t : ℕ) (p : PartsValue Shared) (counts : List ℕ) (lk : IsLocked rules chip_ok shared_ok base t p counts)
    (i ahead amount : ℕ) (c : Chip) (inside : i < rules.count) (path : OnPath rules (machine_of rules base) t i amount c)
    (samples : AreSamples rules chip_ok shared_ok base t i (count_of counts i) ahead) (all : amount ≡ count_of counts i + ahead) (place : i < length counts) where
  abbrev b : Machine Chip Shared
  b = machine_of rules base

  base_ok : IsValid rules chip_ok shared_ok b
  base_ok = valid-core rules chip_ok shared_ok base lk.base_core

  abbrev m : Machine Chip Shared
  m = lk.machine

  -- where the counted moves lead
  before : OnPath rules b t i (count_of counts i) (m.chip i)
  before = lk.stands.path i inside

  -- the samples have no entries
  one-entry : (n : ℕ) → AllBelow rules b t (suc n) → count_of counts i ≤ made rules b i (suc n) → made rules b i (suc n) ≤ amount
      → (count_of counts i ≤ made rules b i n → made rules b i n ≤ amount → of_chip i (journal rules b n) ≡ of_chip i (journal rules b before.moves))
      → (mover rules (run rules b n) ≡ i) ⊎ (mover rules (run rules b n) ≢ i) → (made rules b i n < count_of counts i) ⊎ (count_of counts i ≤ made rules b i n)
      → of_chip i (journal rules b (suc n)) ≡ of_chip i (journal rules b before.moves)
  one-entry n below low high earlier (inl at) (inl less) =
      own-at rules chip_ok shared_ok law b base_ok t lk.small i before.moves (suc n) before.below below (let one = made-mover rules b i n at in let first = before.made in omega arith)
  one-entry n below low high earlier (inl at) (inr more) =
      let one = made-mover rules b i n at in
      let j : ℕ = made rules b i n - count_of counts i in
      let sample = samples j ((run rules b n).chip i) (omega arith)
      (record { moves = n; below = below-less rules b t n (suc n) below (omega arith); made = (let e : made rules b i n ≡ count_of counts i + j = omega arith in e); is = refl }) in
      own-suc rules b i n
      ∙ ap (λ es. of_chip i (journal rules b n) ++ of_chip i es) (ap (entries rules (run rules b n)) at ∙ entries-sample rules (run rules b n) i sample)
      ∙ append-nil (of_chip i (journal rules b n)) ∙ earlier more (omega arith)
  one-entry n below low high earlier (inr ne) q =
      let same = made-other rules b i n ne in
      own-at rules chip_ok shared_ok law b base_ok t lk.small i n (suc n) (below-less rules b t n (suc n) below (omega arith)) below same ∙ earlier (omega arith) (omega arith)

  no-entries : (n : ℕ) → AllBelow rules b t n → count_of counts i ≤ made rules b i n → made rules b i n ≤ amount → of_chip i (journal rules b n) ≡ of_chip i (journal rules b before.moves)
  no-entries zero below low high =
      own-at rules chip_ok shared_ok law b base_ok t lk.small i before.moves 0 before.below below (let none = made-zero rules b i in let first = before.made in omega arith)
  no-entries (suc n) below low high =
      one-entry n below low high (λ more most. no-entries n (below-less rules b t n (suc n) below (omega arith)) more most) (same_or (mover rules (run rules b n)) i) (cases_lt (made rules b i n) (count_of counts i))

  -- the machine with the chip where it is
  abbrev now : Machine Chip Shared
  now = record { shared = m.shared; chip = put m.chip i c }

  abbrev bounds : ℕ → Key
  bounds = put (λ k. bound_in p.bounds k) i (rules.next c).key

  abbrev booked : ℕ → ℕ
  booked = put (count_of counts) i amount

  there : now.chip i ≡ c
  there = put-same m.chip i c

  valid-there : IsValid rules chip_ok shared_ok (run rules b path.moves)
  valid-there = run-valid rules chip_ok shared_ok law b base_ok t lk.small path.moves path.below

  number : (rules.next c).key.chip ≡ i
  number = ap (λ (x : Chip). (rules.next x).key.chip) path.is ∙ valid-there.number i inside

  -- the chip's key has not gone back
  forth : key_lt (rules.next c).key (bound_in p.bounds i) ≡ false
  forth =
      let few = law.few in
      let own = lk.tidy.valid.number i inside in
      let theirs = lk.tidy.bound_number i inside in
      let num = number in
      let under = not_lt-rank (key_of rules m i) (bound_in p.bounds i) (omega arith) (omega arith) (lk.tidy.under i inside) in
      let first = before.made in
      let last = path.made in
      let order = key-by-made rules chip_ok shared_ok law b base_ok t lk.small i before.moves path.moves inside before.below path.below (omega (arith, all)) in
      let old = ap (λ (x : Chip). rank (rules.next x).key) before.is in
      let new = ap (λ (x : Chip). rank (rules.next x).key) path.is in
      rank-not_lt (rules.next c).key (bound_in p.bounds i) (omega arith) (omega arith) (omega arith)

  tidy-booked : IsTidy rules chip_ok shared_ok (record { machine = now; bound = bounds; journal = p.journal })
  tidy-booked = record {
    valid = record {
      shared = lk.tidy.valid.shared;
      chip = λ j q. put-each (λ n x. chip_ok x) m.chip i c j (λ _. subst (λ x. chip_ok x) (sym path.is) (valid-there.chip i inside)) (λ _. lk.tidy.valid.chip j q);
      number = λ j q. put-each (λ n x. (rules.next x).key.chip ≡ n) m.chip i c j (λ _. number) (λ _. lk.tidy.valid.number j q);
    };
    bound_number = λ j q. put-each (λ n k. k.chip ≡ n) (λ k. bound_in p.bounds k) i (rules.next c).key j (λ _. number) (λ _. lk.tidy.bound_number j q);
    under = λ j q. under j q (same_or j i);
  }
    where
      under : (j : ℕ) → j < rules.count → (j ≡ i) ⊎ (j ≢ i) → key_lt (key_of rules now j) (bounds j) ≡ false
      under j q (inl e) =
          subst (λ n. key_lt (key_of rules now n) (bounds n) ≡ false) (sym e)
          (subst (λ (x : Chip). key_lt (rules.next x).key (bounds i) ≡ false) (sym there)
          (subst (λ k. key_lt (rules.next c).key k ≡ false) (sym (put-same (λ k. bound_in p.bounds k) i (rules.next c).key)) (key-itself (rules.next c).key)))
      under j q (inr ne) =
          subst (λ (x : Chip). key_lt (rules.next x).key (bounds j) ≡ false) (sym (put-other m.chip i c j ne))
          (subst (λ k. key_lt (rules.next (m.chip j)).key k ≡ false) (sym (put-other (λ k. bound_in p.bounds k) i (rules.next c).key j ne)) (lk.tidy.under j q))

  stands-booked : StandsFor rules b (seen rules base).bound t now bounds p.journal booked
  stands-booked = record {
    path = λ j q. path_j j q (same_or j i);
    accesses = lk.stands.accesses;
    prefix_below = lk.stands.prefix_below;
    prefix = lk.stands.prefix;
    shared = lk.stands.shared;
    own = λ j n q below e. own_j j n q below e (same_or j i);
    bounds = λ j q. bounds_j j q (same_or j i);
    ahead = All-weaker (λ (e : Entry). (j : ℕ) → j < rules.count → j ≢ e.key.chip → key_lt e.key (bound_in p.bounds j) ≡ true)
        (λ (e : Entry). (j : ℕ) → j < rules.count → j ≢ e.key.chip → key_lt e.key (bounds j) ≡ true)
        (λ e old j q ne. put-each (λ n k. key_lt e.key k ≡ true) (λ k. bound_in p.bounds k) i (rules.next c).key j
        (λ same. lt-through e.key (bound_in p.bounds i) (rules.next c).key (subst (λ n. key_lt e.key (bound_in p.bounds n) ≡ true) same (old j q ne)) forth)
        (λ _. old j q ne)) p.journal lk.stands.ahead;
  }
    where
      at : booked i ≡ amount
      at = put-same (count_of counts) i amount

      apart : (j : ℕ) → j ≢ i → booked j ≡ count_of counts j
      apart j ne = put-other (count_of counts) i amount j ne

      path_j : (j : ℕ) → j < rules.count → (j ≡ i) ⊎ (j ≢ i) → OnPath rules b t j (booked j) (now.chip j)
      path_j j q (inl e) =
          subst (λ n. OnPath rules b t n (booked n) (now.chip n)) (sym e) (record { moves = path.moves; below = path.below; made = path.made ∙ sym at; is = there ∙ path.is })
      path_j j q (inr ne) = let o = lk.stands.path j q in record { moves = o.moves; below = o.below; made = o.made ∙ sym (apart j ne); is = put-other m.chip i c j ne ∙ o.is }

      own_j : (j n : ℕ) → j < rules.count → AllBelow rules b t n → made rules b j n ≡ booked j → (j ≡ i) ⊎ (j ≢ i) → of_chip j p.journal ≡ of_chip j (journal rules b n)
      own_j j n q below e (inl same) =
          subst (λ x. of_chip x p.journal ≡ of_chip x (journal rules b n)) (sym same)
          (let has : made rules b i n ≡ amount = subst (λ x. made rules b x n ≡ booked x) same e ∙ at in
          lk.stands.own i before.moves inside before.below before.made ∙ sym (no-entries n below (omega (arith, all, has)) (omega (arith, has))))
      own_j j n q below e (inr ne) = lk.stands.own j n q below (e ∙ apart j ne)

      bounds_j : (j : ℕ) → j < rules.count → (j ≡ i) ⊎ (j ≢ i) → IsBound rules b (seen rules base).bound j (booked j) (key_of rules now j) (bounds j)
      bounds_j j q (inl e) =
          subst (λ n. IsBound rules b (seen rules base).bound n (booked n) (key_of rules now n) (bounds n)) (sym e)
          (inl (put-same (λ k. bound_in p.bounds k) i (rules.next c).key ∙ ap (λ (x : Chip). (rules.next x).key) (sym there)))
      bounds_j j q (inr ne) =
          subst (λ k. IsBound rules b (seen rules base).bound j (booked j) (key_of rules now j) k) (sym (put-other (λ k. bound_in p.bounds k) i (rules.next c).key j ne))
          (subst (λ n. IsBound rules b (seen rules base).bound j n (key_of rules now j) (bound_in p.bounds j)) (sym (apart j ne))
          (subst (λ (x : Chip). IsBound rules b (seen rules base).bound j (count_of counts j) (rules.next x).key (bound_in p.bounds j)) (sym (put-other m.chip i c j ne)) (lk.stands.bounds j q)))

  pub kept-booked : IsLocked rules chip_ok shared_ok base t (record p { bounds = announced rules i c p.bounds }) (slice_set counts i amount)
  kept-booked = record {
    base_core = lk.base_core;
    time = lk.time;
    small = lk.small;
    room = lk.room;
    bound_count = length-set p.bounds i (rules.next c).key ∙ lk.bound_count;
    machine = now;
    shared = lk.shared;
    tidy = subst (λ (f : ℕ → Key). IsTidy rules chip_ok shared_ok (record { machine = now; bound = f; journal = p.journal })) (sym bounds-are) tidy-booked;
    stands = subst (λ (f : ℕ → Key). StandsFor rules b (seen rules base).bound t now f p.journal (count_of (slice_set counts i amount))) (sym bounds-are)
        (subst (λ (f : ℕ → ℕ). StandsFor rules b (seen rules base).bound t now bounds p.journal f) (sym (set-put counts i amount 0 place)) stands-booked);
  }
    where
      bounds-are : (λ (k : ℕ). bound_in (announced rules i c p.bounds) k) ≡ bounds
      bounds-are = bounds-announced rules p.bounds i c (let n = lk.bound_count in omega (arith, inside))

  -- how the section finds the chip
  pub found-number : (rules.next c).key.chip ≡ i
  found-number = number

  pub found-under : key_lt (rules.next c).key (bound_in p.bounds i) ≡ false
  found-under = forth
