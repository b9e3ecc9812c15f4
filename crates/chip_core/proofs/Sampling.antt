-- A chip that samples on, before a limit.
use Rattle.std.proofs.Common.{◌≡◌, ℕ, zero, suc, ◌+◌, ◌<◌, ◌≤◌, true, cond, refl, sym, ◌∙◌, ap, ap₂, subst, arith, List, length, slice_index_or, slice_set}
use Rattle.std.proofs.lemmas.Bool.Decides.{nat_tests}
use Rattle.md_word.specs.Clock.{cycle_limit}
use Rattle.md_word.specs.declared.event.Entry.{Entry}
use Rattle.md_word.specs.declared.key.Key.{Key}
use Rattle.md_word.specs.Keys.{key_lt}
use Rattle.chip_core.specs.declared.event.Event.TheVariants.{Announce, Perform, Sample}
use Rattle.chip_core.specs.Chips.{Rules, Lawful, SamplesBelow, SamplesTo, sampled}
use Rattle.chip_core.specs.Cores.{CoreValue, IsCore, no_key, seen}
use Rattle.chip_core.specs.Events.{AreKeys, IsEnabled, IsTidy, Reaches, SamplesOn, Seen, after, left_bound, own_event, sampled_on}
use Rattle.chip_core.specs.Looks.{IsLeastLimit, IsLimit}
use Rattle.chip_core.specs.Machines.{Machine, is_sample, key_of, put}
use Rattle.chip_core.specs.Resting.{with_chip}
use Rattle.chip_core.proofs.Keeps.{tidy-leads}
use Rattle.chip_core.proofs.Keys.{put-other, put-same}
use Rattle.chip_core.proofs.Lists.{core-tidy, core_value, set-put, tidy-core}
use Rattle.chip_core.proofs.Stages.{move-sample}
use Rattle.chip_core.proofs.Turns.{keys-turned, put-twice, reaches-itself, reaches-on, turn-less, turn-reaches}
use Rattle.chip_core.proofs.Works.{work}

module _ {Chip Shared Pins : Type 0} (rules : Rules Chip Shared Pins) where
  own-sample : (s : Seen Chip Shared) (i : ℕ) → is_sample rules s.machine i ≡ true → own_event rules s i ≡ Sample i
  own-sample s i is = ap (λ b. cond b (Sample i) (Perform i)) is

  -- a limit is one before a later cycle, and does not lie after the cycle
  pub limit-wider : (t u : ℕ) → t ≤ u → (bound : ℕ → Key) (n i : ℕ) (end : Key) → IsLimit rules t bound n i end → IsLimit rules u bound n i end
  limit-wider t u le bound n i end limit key below = let found = limit key below in (let low = found.0 in omega (arith, low), found.1)

  pub limit-cycle : (t : ℕ) (bound : ℕ → Key) (n i : ℕ) (end : Key) → IsLimit rules t bound n i end → end.cycle ≤ t
  limit-cycle t bound n i end limit = go end.cycle refl
    where
      below : (c : ℕ) → suc c ≡ end.cycle → key_lt (record { cycle = c; chip = 0 }) end ≡ true
      below c e = grind (arith, nat_tests)

      go : (c : ℕ) → c ≡ end.cycle → end.cycle ≤ t
      go zero e = omega arith
      go (suc c) e = let low = (limit (record { cycle = c; chip = 0 }) (below c e)).0 in omega arith

  -- the limit, and the keys, after a sample
  pub limit-sampled : (t : ℕ) (s : Seen Chip Shared) (n i : ℕ) (end : Key) → IsLimit rules t s.bound n i end → IsLimit rules t (after rules (after rules s (Sample i)) (Announce i)).bound n i end
  limit-sampled t s n i end limit key below =
      let found = limit key below in
      let moved : Seen Chip Shared = after rules s (Sample i) in (
        found.0,
        λ j h ne w. subst (λ (b : Key). key_lt key b ≡ true)
            (sym (put-other moved.bound i (key_of rules moved.machine i) j ne ∙ put-other s.bound i (left_bound rules s.machine i) j ne)) (found.1 j h ne w),
      )

  least-sampled : (t : ℕ) (s : Seen Chip Shared) (n i : ℕ) (end : Key) → IsLeastLimit rules t s.bound n i end → IsLeastLimit rules t (after rules (after rules s (Sample i)) (Announce i)).bound n i end
  least-sampled t s n i end least key low all =
      let moved : Seen Chip Shared = after rules s (Sample i) in
      least key low
      (λ j h ne w. subst (λ (b : Key). key_lt key b ≡ true)
      (put-other moved.bound i (key_of rules moved.machine i) j ne ∙ put-other s.bound i (left_bound rules s.machine i) j ne) (all j h ne w))

  keys-sampled : (s : Seen Chip Shared) (i : ℕ) → is_sample rules s.machine i ≡ true → AreKeys rules s rules.count → AreKeys rules (after rules (after rules s (Sample i)) (Announce i)) rules.count
  keys-sampled s i is keys = subst (λ e. AreKeys rules (after rules (after rules s e) (Announce i)) rules.count) (own-sample s i is) (keys-turned rules s i keys)

  -- before its limit a sample may come
  pub sample-enabled : (t : ℕ) (s : Seen Chip Shared) (i : ℕ) (end : Key) → i < rules.count → SamplesBelow rules end (s.machine.chip i) → IsLimit rules t s.bound rules.count i end → IsEnabled rules s t (Sample i)
  sample-enabled t s i end h next limit = let found = limit (key_of rules s.machine i) next.1 in (h, next.0, found.0, found.1)

  -- one sample is as many as there may be
  pub one-sample : (end : Key) (pins : Pins) (c d : Chip) → SamplesBelow rules end c → d ≡ rules.sample c pins → SamplesTo rules 1 end pins c d
  unfolding sampled
  one-sample end pins c d next is = record { some = omega arith; each = go; is = is }
    where
      go : (k : ℕ) → k < 1 → SamplesBelow rules end (sampled rules k pins c)
      go zero h = next
      go (suc k) h = absurd (omega arith)

  pub chip-seen : (sh : Shared) (cs : List Chip) (bs : List Key) (j : List Entry) (r i : ℕ) (c : Chip) (k : Key) → i < length cs → i < length bs → k ≡ (rules.next c).key
      → seen rules (core_value rules sh (slice_set cs i c) (slice_set bs i k) j r) ≡ with_chip rules (seen rules (core_value rules sh cs bs j r)) i c
  chip-seen sh cs bs j r i c k hc hb is =
      ap₂ (λ (f : ℕ → Chip) (b : ℕ → Key). record { machine = record { shared = sh; chip = f }; bound = b; journal = j })
      (set-put cs i c rules.blank hc) (set-put bs i k no_key hb ∙ ap (put (λ n. slice_index_or bs n no_key) i) is)

  -- after one sample, and after one more
  pub first-on : (s : Seen Chip Shared) (i : ℕ) → is_sample rules s.machine i ≡ true
      → after rules (after rules s (Sample i)) (Announce i) ≡ with_chip rules s i (rules.sample (s.machine.chip i) (rules.pins s.machine.shared i))
  first-on s i is =
      ap (λ (m : Machine Chip Shared). record { machine = m; bound = put (put s.bound i (left_bound rules s.machine i)) i (key_of rules m i); journal = s.journal }) (move-sample rules s.machine i is)
      ∙ ap (λ (x : Chip). record { machine = moved; bound = put (put s.bound i (left_bound rules s.machine i)) i (rules.next x).key; journal = s.journal }) (put-same s.machine.chip i c)
      ∙ ap (λ (b : ℕ → Key). record { machine = moved; bound = b; journal = s.journal }) (put-twice s.bound i (left_bound rules s.machine i) (rules.next c).key)
    where
      c : Chip
      c = rules.sample (s.machine.chip i) (rules.pins s.machine.shared i)

      moved : Machine Chip Shared
      moved = record { shared = s.machine.shared; chip = put s.machine.chip i c }

  pub next-on : (s : Seen Chip Shared) (i : ℕ) (c : Chip) → (rules.next c).sample ≡ true
      → after rules (after rules (with_chip rules s i c) (Sample i)) (Announce i) ≡ with_chip rules s i (rules.sample c (rules.pins s.machine.shared i))
  next-on s i c is =
      first-on (with_chip rules s i c) i (ap (λ (x : Chip). (rules.next x).sample) (put-same s.machine.chip i c) ∙ is)
      ∙ ap (λ (x : Chip). with_chip rules (with_chip rules s i c) i (rules.sample x (rules.pins s.machine.shared i))) (put-same s.machine.chip i c)
      ∙ ap₂ (λ (f : ℕ → Chip) (b : ℕ → Key). record { machine = record { shared = s.machine.shared; chip = f }; bound = b; journal = s.journal })
      (put-twice s.machine.chip i c d) (put-twice s.bound i (rules.next c).key (rules.next d).key)
    where
      d : Chip
      d = rules.sample c (rules.pins s.machine.shared i)

  -- a chip's samples are those of the core
  module _ (s : Seen Chip Shared) (i : ℕ) (pins : Pins) (shown : pins ≡ rules.pins s.machine.shared i) where
    all-on : (n : ℕ) → ((k : ℕ) → k < suc n → (rules.next (sampled rules k pins (s.machine.chip i))).sample ≡ true)
        → sampled_on rules (suc n) s i ≡ with_chip rules s i (sampled rules (suc n) pins (s.machine.chip i))
    unfolding sampled sampled_on
    all-on zero each = first-on s i (each 0 (omega arith)) ∙ ap (λ p. with_chip rules s i (rules.sample (s.machine.chip i) p)) (sym shown)
    all-on (suc n) each =
        ap (λ z. after rules (after rules z (Sample i)) (Announce i)) (all-on n (λ k h. each k (omega arith)))
        ∙ next-on s i (sampled rules (suc n) pins (s.machine.chip i)) (each (suc n) (omega arith))
        ∙ ap (λ p. with_chip rules s i (rules.sample (sampled rules (suc n) pins (s.machine.chip i)) p)) (sym shown)

    pub chip-on : (n : ℕ) → ((k : ℕ) → k < n → (rules.next (sampled rules k pins (s.machine.chip i))).sample ≡ true)
        → (sampled_on rules n s i).machine.chip i ≡ sampled rules n pins (s.machine.chip i)
    unfolding sampled sampled_on
    chip-on zero each = refl
    chip-on (suc n) each =
        ap (λ (z : Seen Chip Shared). z.machine.chip i) (all-on n each) ∙ put-same s.machine.chip i (sampled rules (suc n) pins (s.machine.chip i))

    pub samples-on : (m : ℕ) (end : Key) (c : Chip) (z : Seen Chip Shared) → SamplesTo rules m end pins (s.machine.chip i) c → z ≡ with_chip rules s i c → SamplesOn rules end i s z
    samples-on m end c z to is = go m to.some to.each to.is
      where
        go : (n : ℕ) → 1 ≤ n → ((k : ℕ) → k < n → SamplesBelow rules end (sampled rules k pins (s.machine.chip i))) → c ≡ sampled rules n pins (s.machine.chip i) → SamplesOn rules end i s z
        go zero some each came = absurd (omega arith)
        go (suc n) some each came = record {
          samples = suc n;
          some = some;
          each = λ k h. subst (λ (x : Chip). SamplesBelow rules end x) (sym (chip-on k (λ j q. (each j (omega arith)).0))) (each k h);
          is = is ∙ ap (λ x. with_chip rules s i x) came ∙ sym (all-on n (λ k h. (each k h).0));
        }

module _ {Chip Shared Pins : Type 0} (rules : Rules Chip Shared Pins) (chip_ok : Chip → Type 0) (shared_ok : Shared → Type 0) (law : Lawful rules chip_ok shared_ok) where
  -- what samples before a limit leave: enabled events lead there, the bounds stay keys, the limit
  -- stays one, and there is less to do
  pub record Sampled (t : ℕ) (end : Key) (i n : ℕ) (s z : Seen Chip Shared) : Type 0 where
    pub led : Reaches rules t s z
    pub tidy : IsTidy rules chip_ok shared_ok z
    pub keys : AreKeys rules s rules.count → AreKeys rules z rules.count
    pub limit : IsLimit rules t z.bound rules.count i end
    pub least : IsLeastLimit rules t s.bound rules.count i end → IsLeastLimit rules t z.bound rules.count i end
    pub less : work rules t z + n ≤ work rules t s

  module _ (t : ℕ) (small : t ≤ cycle_limit) where
    -- a sample, and the announcement
    module _ (s : Seen Chip Shared) (tidy : IsTidy rules chip_ok shared_ok s) (i : ℕ) (en : IsEnabled rules s t (Sample i)) where
      sample-reaches : Reaches rules t s (after rules (after rules s (Sample i)) (Announce i))
      sample-reaches =
          subst (λ e. Reaches rules t s (after rules (after rules s e) (Announce i))) (own-sample rules s i en.1)
          (turn-reaches rules chip_ok shared_ok law t small s tidy i en.0 (subst (λ e. IsEnabled rules s t e) (sym (own-sample rules s i en.1)) en))

      sample-less : work rules t (after rules (after rules s (Sample i)) (Announce i)) < work rules t s
      sample-less =
          subst (λ e. work rules t (after rules (after rules s e) (Announce i)) < work rules t s) (own-sample rules s i en.1)
          (turn-less rules chip_ok shared_ok law t small s tidy i en.0 (subst (λ e. IsEnabled rules s t e) (sym (own-sample rules s i en.1)) en))

    module _ (s : Seen Chip Shared) (tidy : IsTidy rules chip_ok shared_ok s) (i : ℕ) (h : i < rules.count) (end : Key) (limit : IsLimit rules t s.bound rules.count i end) where
      -- one more
      next-sampled : (n : ℕ) (z : Seen Chip Shared) → Sampled t end i n s z → SamplesBelow rules end (z.machine.chip i) → Sampled t end i (suc n) s (after rules (after rules z (Sample i)) (Announce i))
      next-sampled n z before next = record {
        led = reaches-on rules t s z (after rules (after rules z (Sample i)) (Announce i)) before.led (sample-reaches z before.tidy i en);
        tidy = (let r = sample-reaches z before.tidy i en in tidy-leads rules chip_ok shared_ok law t small z before.tidy r.0 (after rules (after rules z (Sample i)) (Announce i)) r.1);
        keys = λ keys. keys-sampled rules z i en.1 (before.keys keys);
        limit = limit-sampled rules t z rules.count i end before.limit;
        least = λ least. least-sampled rules t z rules.count i end (before.least least);
        less = (let fall = sample-less z before.tidy i en in let rest = before.less in omega arith);
      }
        where
          en : IsEnabled rules z t (Sample i)
          en = sample-enabled rules t z i end h next before.limit

      pub on-sampled : (n : ℕ) → ((k : ℕ) → k < n → SamplesBelow rules end ((sampled_on rules k s i).machine.chip i)) → Sampled t end i n s (sampled_on rules n s i)
      unfolding sampled_on
      on-sampled zero each = record { led = reaches-itself rules t s; tidy = tidy; keys = λ keys. keys; limit = limit; least = λ least. least; less = omega arith }
      on-sampled (suc n) each = next-sampled n (sampled_on rules n s i) (on-sampled n (λ k q. each k (omega arith))) (each n (omega arith))

      pub sampled-on : (z : Seen Chip Shared) (on : SamplesOn rules end i s z) → Sampled t end i on.samples s z
      sampled-on z on = subst (λ x. Sampled t end i on.samples s x) (sym on.is) (on-sampled on.samples on.each)

  -- samples before a limit leave a core
  pub core-sampled : (v w : CoreValue Chip Shared) → IsCore rules chip_ok shared_ok v → (i : ℕ) → i < rules.count → (end : Key) → IsLimit rules cycle_limit (seen rules v).bound rules.count i end
      → SamplesOn rules end i (seen rules v) (seen rules w) → length w.chips ≡ rules.count → length w.bounds ≡ rules.count → IsCore rules chip_ok shared_ok w
  core-sampled v w core i h end limit on cs bs =
      core-tidy rules chip_ok shared_ok w cs bs (sampled-on cycle_limit (omega arith) (seen rules v) (tidy-core rules chip_ok shared_ok v core) i h end limit (seen rules w) on).tidy
