-- A chip stays while another one sleeps.
use Rattle.std.proofs.Common.{◌≡◌, ◌≢◌, ℕ, zero, suc, ◌-◌, ◌<◌, ◌≤◌, true, false, cond, refl, sym, ◌∙◌, ap, subst, arith, inl, inr, Option, true≢false}
use Rattle.md_word.specs.Clock.{cycle_limit}
use Rattle.md_word.specs.declared.key.Key.{Key}
use Rattle.md_word.specs.Keys.{key_lt}
use Rattle.chip_core.specs.declared.event.Event.TheVariants.{Announce, Perform, Sample}
use Rattle.chip_core.specs.Chips.{Lawful, Rests, Rules, SamplesBelow, WritesNone}
use Rattle.chip_core.specs.Events.{AreKeys, IsEnabled, IsTidy, Reaches, Seen, after, past_access, sampled_on}
use Rattle.chip_core.specs.Looks.{IsLimit}
use Rattle.chip_core.specs.Machines.{is_sample, key_of}
use Rattle.chip_core.specs.Resting.{IsFirstOther, SamplesWithin, Sleeps}
use Rattle.chip_core.specs.Staying.{IsWoken, KeepsPins, TakesTurn, turned}
use Rattle.chip_core.proofs.Asleep.{Asleep, asleep-past, asleep-within, sleeps-past, sleeps-within}
use Rattle.chip_core.proofs.Keeps.{key-itself}
use Rattle.chip_core.proofs.Keys.{apart-lt, by_test, not_lt-back, not_lt-trans, same_or}
use Rattle.chip_core.proofs.Sampling.{on-sampled}
use Rattle.chip_core.proofs.Staying.{bound-turned, free-bound, keys-after, low-free, tidy-turn}

module _ {Chip Shared Pins : Type 0} (rules : Rules Chip Shared Pins) (chip_ok : Chip → Type 0) (shared_ok : Shared → Type 0) (law : Lawful rules chip_ok shared_ok) (t : ℕ) (small : t ≤ cycle_limit) where
  -- the sample of the chip of first other bound may come
  pub other-enabled : (s : Seen Chip Shared) → IsTidy rules chip_ok shared_ok s → AreKeys rules s rules.count → (i j : ℕ) → WritesNone rules i → IsFirstOther t s.bound rules.count i j → is_sample rules s.machine j ≡ true → IsEnabled rules s t (Sample j)
  other-enabled s tidy keys i j apart first e = (first.inside, e, low, looked)
    where
      low : (key_of rules s.machine j).cycle < t
      low = subst (λ (k : Key). k.cycle < t) (keys j first.inside) first.low

      looked : (k : ℕ) → k < rules.count → k ≢ j → rules.writes k j ≡ true → key_lt (key_of rules s.machine j) (s.bound k) ≡ true
      looked k q ne w =
          subst (λ x. key_lt x (s.bound k) ≡ true) (keys j first.inside)
          (apart-lt (s.bound k) (s.bound j) (λ same. ne (sym (tidy.bound_number k q) ∙ same ∙ tidy.bound_number j first.inside))
          (first.least k q (λ same. true≢false (sym w ∙ ap (λ n. rules.writes n j) same ∙ apart j first.inside))))

  module _ (s : Seen Chip Shared) (tidy : IsTidy rules chip_ok shared_ok s) (i : ℕ) (h : i < rules.count) (pins : Pins) (rests : Rests rules pins (s.machine.chip i)) (apart : WritesNone rules i)
      (z : Seen Chip Shared) (asleep : Asleep rules chip_ok shared_ok law t i pins s z) (keys : AreKeys rules z rules.count) (tidy-z : IsTidy rules chip_ok shared_ok z)
      (j : ℕ) (first : IsFirstOther t z.bound rules.count i j) (w : Seen Chip Shared) (woke : Option Key) (turn : TakesTurn rules t j i z w woke) where
    tidy-at : (k : ℕ) → k ≤ turn.stays.events → IsTidy rules chip_ok shared_ok (turned rules k j z)
    tidy-at = tidy-turn rules chip_ok shared_ok law z tidy-z j first.inside t small i w woke turn

    keys-at : (k : ℕ) → AreKeys rules (turned rules k j z) rules.count
    keys-at = keys-after rules z j keys

    -- it stays first
    first-at : (k : ℕ) → k < turn.stays.events → IsFirstOther t (turned rules k j z).bound rules.count i j
    first-at k q = record {
      inside = first.inside;
      other = first.other;
      low = subst (λ (x : Key). x.cycle < t) (sym (keys-at k j first.inside)) (low-free rules chip_ok shared_ok law z tidy-z j first.inside t small i w woke turn k q);
      least = λ m hm nm. elim (same_or m j) [
        | inl e ↦ subst (λ x. key_lt ((turned rules k j z).bound x) ((turned rules k j z).bound j) ≡ false) (sym e) (key-itself rules chip_ok shared_ok law ((turned rules k j z).bound j))
        | inr nj ↦ not_lt-back ((turned rules k j z).bound j) ((turned rules k j z).bound m)
            (subst (λ x. key_lt x ((turned rules k j z).bound m) ≡ true) (sym (keys-at k j first.inside)) (free-bound rules chip_ok shared_ok law z tidy-z j first.inside t small i w woke turn k q m hm nj nm))
      ];
    }

    -- one sample of it
    module _ (k : ℕ) (q : k < turn.stays.events) (e : is_sample rules (turned rules k j z).machine j ≡ true) where
      limit-at : IsLimit rules t (turned rules k j z).bound rules.count j turn.end
      limit-at key below =
          let free = turn.free key below in (
            free.0,
            λ m hm nj wr. subst (λ b. key_lt key b ≡ true) (sym (bound-turned rules z j m nj k))
                (free.1 m hm nj (λ same. true≢false (sym wr ∙ ap (λ x. rules.writes x j) same ∙ apart j first.inside))),
          )

      each-at : (m : ℕ) → m < 1 → SamplesBelow rules turn.end ((sampled_on rules m (turned rules k j z) j).machine.chip j)
      unfolding sampled_on
      each-at zero p = (e, turn.stays.each k q)
      each-at (suc m) p = absurd (omega arith)

      within-at : SamplesWithin rules t j (turned rules k j z) (after rules (after rules (turned rules k j z) (Sample j)) (Announce j))
      unfolding sampled_on
      within-at = record { end = turn.end; limit = limit-at; samples = 1; each = each-at; is = refl }

      led-at : Reaches rules t (turned rules k j z) (after rules (after rules (turned rules k j z) (Sample j)) (Announce j))
      unfolding sampled_on
      led-at = (on-sampled rules chip_ok shared_ok law t small (turned rules k j z) (tidy-at k (omega arith)) j first.inside turn.end limit-at 1 each-at).led

    -- what the events so far came to
    next-is : (k : ℕ) (b : _) → is_sample rules (turned rules k j z).machine j ≡ b → turned rules (suc k) j z ≡ after rules (after rules (turned rules k j z) (cond b (Sample j) (Perform j))) (Announce j)
    unfolding turned
    next-is k b e = ap (λ x. after rules (after rules (turned rules k j z) (cond x (Sample j) (Perform j))) (Announce j)) e

    past-is : (k : ℕ) → is_sample rules (turned rules k j z).machine j ≡ false → past_access rules (turned rules k j z) j ≡ turned rules (suc k) j z
    past-is k e =
        ap (λ x. cond x (turned rules k j z) (after rules (after rules (turned rules k j z) (Perform j)) (Announce j))) e
        ∙ sym (next-is k false e)

    past-same : (k : ℕ) → is_sample rules (turned rules k j z).machine j ≡ true → past_access rules (turned rules k j z) j ≡ turned rules k j z
    past-same k e = ap (λ x. cond x (turned rules k j z) (after rules (after rules (turned rules k j z) (Perform j)) (Announce j))) e

    one : (k : ℕ) → k < turn.stays.events → Asleep rules chip_ok shared_ok law t i pins s (turned rules k j z) → rules.pins (turned rules (suc k) j z).machine.shared i ≡ rules.pins (turned rules k j z).machine.shared i
        → Asleep rules chip_ok shared_ok law t i pins s (turned rules (suc k) j z)
    one k q now stays =
        by_test (is_sample rules (turned rules k j z).machine j)
        (λ e. subst (λ x. Asleep rules chip_ok shared_ok law t i pins s x) (sym (next-is k true e))
        (asleep-within rules chip_ok shared_ok law t small s tidy i h pins (turned rules k j z) now rests apart (tidy-at k (omega arith)) (keys-at k) j first.inside first.other
        (after rules (after rules (turned rules k j z) (Sample j)) (Announce j)) (subst (λ x. IsTidy rules chip_ok shared_ok x) (next-is k true e) (tidy-at (suc k) (omega arith)))
        (subst (λ x. AreKeys rules x rules.count) (next-is k true e) (keys-at (suc k))) (within-at k q e) (led-at k q e)))
        (λ e. subst (λ x. Asleep rules chip_ok shared_ok law t i pins s x) (past-is k e)
        (asleep-past rules chip_ok shared_ok law t small s tidy i h pins (turned rules k j z) now rests (keys-at k) (tidy-at k (omega arith)) j (first-at k q)
        (subst (λ x. IsTidy rules chip_ok shared_ok x) (sym (past-is k e)) (tidy-at (suc k) (omega arith)))
        (ap (λ (x : Seen Chip Shared). rules.pins x.machine.shared i) (past-is k e) ∙ stays)))

    all : (m : ℕ) → m ≤ turn.stays.events → KeepsPins rules m j i z → Asleep rules chip_ok shared_ok law t i pins s (turned rules m j z)
    unfolding turned
    all zero le stay = asleep
    all (suc m) le stay = one m (omega arith) (all m (omega arith) (λ k q. stay k (omega arith))) (stay m (omega arith))

    pub asleep-turn : KeepsPins rules turn.stays.events j i z → Asleep rules chip_ok shared_ok law t i pins s w
    asleep-turn stay = subst (λ x. Asleep rules chip_ok shared_ok law t i pins s x) (sym turn.stays.is) (all turn.stays.events (omega arith) stay)

    -- the last of its events woke the sleeper
    module _ (key : Key) (woken : IsWoken rules turn.stays.events j i z key) where
      abbrev last : ℕ
      last = turn.stays.events - 1

      inside : last < turn.stays.events
      inside = let some = woken.some in omega arith

      at-last : Asleep rules chip_ok shared_ok law t i pins s (turned rules last j z)
      at-last = all last (omega (arith, inside)) woken.before

      key-last : key ≡ (turned rules last j z).bound j
      key-last = woken.last ∙ sym (keys-at last j first.inside)

      ends : turned rules (suc last) j z ≡ w
      ends = ap (λ m. turned rules m j z) (let some = woken.some in let same : suc last ≡ turn.stays.events = omega (arith, some) in same) ∙ sym turn.stays.is

      before : Sleeps rules t ((turned rules last j z).bound j) i pins s (past_access rules (turned rules last j z) j)
      before = sleeps-past rules chip_ok shared_ok law t small s tidy i h pins (turned rules last j z) at-last rests (keys-at last) (tidy-at last (omega (arith, inside))) j (first-at last inside)

      pub sleeps-woken : Sleeps rules t key i pins s w
      sleeps-woken =
          subst (λ k. Sleeps rules t k i pins s w) (sym key-last)
          (by_test (is_sample rules (turned rules last j z).machine j)
          (λ e. subst (λ x. Sleeps rules t ((turned rules last j z).bound j) i pins s x) (sym (next-is last true e) ∙ ends)
          (sleeps-within rules chip_ok shared_ok law t small s tidy i h pins (turned rules last j z) ((turned rules last j z).bound j)
          (subst (λ x. Sleeps rules t ((turned rules last j z).bound j) i pins s x) (past-same last e) before) (subst (λ c. Rests rules pins c) (sym at-last.sleeps.chip) rests) j first.inside first.other apart
          (after rules (after rules (turned rules last j z) (Sample j)) (Announce j)) (within-at last inside e)))
          (λ e. subst (λ x. Sleeps rules t ((turned rules last j z).bound j) i pins s x) (past-is last e ∙ ends) before))

      pub after-own : key_lt (key_of rules s.machine i) key ≡ true
      after-own =
          subst (λ k. key_lt (key_of rules s.machine i) k ≡ true) (sym key-last)
          (apart-lt ((turned rules last j z).bound j) (key_of rules s.machine i) (λ same. first.other (sym ((tidy-at last (omega (arith, inside))).bound_number j first.inside) ∙ same ∙ tidy.valid.number i h))
          (not_lt-trans (key_of rules s.machine i) at-last.upto ((turned rules last j z).bound j) at-last.own (at-last.others j first.inside first.other)))

      pub before-limit : key.cycle < t
      before-limit = subst (λ (k : Key). k.cycle < t) (sym key-last) (first-at last inside).low
