-- What a section keeps: the locked parts stay a core that stands for the base, and the held chip
-- stays on its path.
use Rattle.std.proofs.Common.{◌≡◌, ◌≢◌, ℕ, zero, suc, ◌+◌, ◌<◌, ◌≤◌, true, false, refl, sym, ◌∙◌, ap, subst, arith, List, [], ◌∷◌, length, slice_set, length-set, length-append, get_or-set_same, get_or-set_other, true≢false}
use Rattle.std.proofs.lemmas.List.{set-set}
use Rattle.md_word.specs.Clock.{cycle_limit}
use Rattle.md_word.specs.declared.key.Key.{Key}
use Rattle.md_word.specs.Keys.{key_lt}
use Rattle.chip_core.specs.declared.event.Event.{Event}
use Rattle.chip_core.specs.declared.event.Event.TheVariants.{Announce, Perform, Sample}
use Rattle.chip_core.specs.Chips.{Rules, Lawful, SamplesBelow}
use Rattle.chip_core.specs.Chips.{sampled as sampled_n}
use Rattle.chip_core.specs.Cores.{CoreValue, IsCore, bound_in, machine_of, no_key, seen}
use Rattle.chip_core.specs.Looks.{FindsOther, IsLimit, LooksAt}
use Rattle.chip_core.proofs.Sampling.{chip-on, limit-sampled, sample-enabled}
use Rattle.chip_core.specs.Equations.{by_test, chip-access, chip-sample, put-same, put-other, shared-access, shared-sample}
use Rattle.chip_core.specs.Events.{IsEnabled, IsTidy, Seen, after, counted, left_bound, sampled_on}
use Rattle.chip_core.specs.Limits.{all_moves_left}
use Rattle.chip_core.specs.Machines.{Machine, OnPath, key_of, is_sample, move, put}
use Rattle.chip_core.specs.Standing.{StandsFor}
use Rattle.chip_core.proofs.Keys.{not_lt-rank, rank-key_lt}
use Rattle.chip_core.proofs.Keeps.{enabled-wider, stands_move, tidy-after}
use Rattle.chip_core.proofs.Lists.{set-put, valid-core}
use Rattle.chip_core.proofs.Runs.{chip-at}
use Rattle.chip_core.proofs.Works.{entries-few}
use Rattle.chip_run.specs.Held.{AreSamples, HeldValue, IsAhead, IsHeld, IsLease, settled}
use Rattle.chip_run.specs.Locked.{IsLocked, count_of, seen_at}
use Rattle.chip_run.specs.Parts.{PartsValue}
use Rattle.chip_run.specs.Sections.{IsBlocked, IsFound, IsLockedAt, performed, sampled}
use Rattle.chip_run.specs.Steps.{HasPlaceFor, HasTurn, IsLeaseEnd, IsStep, after_access, announced, raised}
use Rattle.chip_run.proofs.Booking.{found-number, found-under, kept-booked}
use Rattle.chip_run.proofs.CoreSteps.{announced-same, bounds-announced, bounds-raised}
use Rattle.chip_run.proofs.KeyOrder.{same-key}
use Rattle.chip_run.specs.declared.stepped.Stepped.TheVariants.{Performed, Sampled}
use Rattle.chip_run.specs.declared.held.Due.{Due}
use Rattle.chip_run.specs.declared.held.Due.TheVariants.{Nothing, Advance}
use Rattle.chip_run.specs.declared.held.Due.TheVariants as Dues

module _ {Chip Shared Pins : Type 0} (rules : Rules Chip Shared Pins) (chip_ok : Chip → Type 0) (shared_ok : Shared → Type 0) (law : Lawful rules chip_ok shared_ok) where
  -- a bound that is not below its chip's key is that key
  same-bound : (s : Seen Chip Shared) → IsTidy rules chip_ok shared_ok s → (i : ℕ) → i < rules.count → key_lt (s.bound i) (key_of rules s.machine i) ≡ false → after rules s (Announce i) ≡ s
  same-bound s tidy i h e = announced-same rules s i (same-key (key_of rules s.machine i) (s.bound i) (tidy.valid.number i h ∙ sym (tidy.bound_number i h)) (tidy.under i h) e)

  -- announcing keeps all, also where it changes nothing
  tidy-announced : (s : Seen Chip Shared) → IsTidy rules chip_ok shared_ok s → (i : ℕ) → i < rules.count → IsTidy rules chip_ok shared_ok (after rules s (Announce i))
  tidy-announced s tidy i h =
      by_test (key_lt (s.bound i) (key_of rules s.machine i))
      (λ e. tidy-after rules chip_ok shared_ok law s tidy (Announce i) (h, e))
      (λ e. subst (λ (w : Seen Chip Shared). IsTidy rules chip_ok shared_ok w) (sym (same-bound s tidy i h e)) tidy)

  module _ (base : CoreValue Chip Shared) (base_core : IsCore rules chip_ok shared_ok base) (t : ℕ) (small : t ≤ cycle_limit) where
    abbrev StandsWith : Seen Chip Shared → (ℕ → ℕ) → Type 0
    StandsWith s count = StandsFor rules (machine_of rules base) (seen rules base).bound t s.machine s.bound s.journal count

    stands-announced : (s : Seen Chip Shared) → IsTidy rules chip_ok shared_ok s → (count : ℕ → ℕ) → StandsWith s count → (i : ℕ) → i < rules.count → StandsWith (after rules s (Announce i)) count
    stands-announced s tidy count st i h =
        by_test (key_lt (s.bound i) (key_of rules s.machine i))
        (λ e. stands_move rules chip_ok shared_ok law (machine_of rules base) (valid-core rules chip_ok shared_ok base base_core) t small (seen rules base).bound s tidy count st (Announce i) (h, e))
        (λ e. subst (λ (w : Seen Chip Shared). StandsWith w count) (sym (same-bound s tidy i h e)) st)

    -- an enabled event keeps all
    stands-next : (s : Seen Chip Shared) → IsTidy rules chip_ok shared_ok s → (count : ℕ → ℕ) → StandsWith s count → (e : Event) → IsEnabled rules s t e → StandsWith (after rules s e) (counted count e)
    stands-next s tidy count st e en = stands_move rules chip_ok shared_ok law (machine_of rules base) (valid-core rules chip_ok shared_ok base base_core) t small (seen rules base).bound s tidy count st e en

    few-entries : (s : Seen Chip Shared) (count : ℕ → ℕ) → StandsWith s count → length s.journal ≤ all_moves_left rules t (machine_of rules base)
    few-entries s count st =
        let held = ap length st.prefix in
        let few = entries-few rules chip_ok shared_ok law t small (machine_of rules base) (valid-core rules chip_ok shared_ok base base_core) st.accesses st.prefix_below in
        omega arith

  module _ (base : CoreValue Chip Shared) (t : ℕ) (p : PartsValue Shared) (counts : List ℕ) (lk : IsLocked rules chip_ok shared_ok base t p counts) (h : HeldValue Chip Pins) (low : h.number < rules.count)
      (path : OnPath rules (machine_of rules base) t h.number h.amount h.chip) (inside : h.number < length counts) (booked : count_of counts h.number ≡ h.amount) where
    abbrev i : ℕ
    i = h.number

    abbrev m : Machine Chip Shared
    m = lk.machine

    -- the held chip is the one that the counted count leads to
    pub same_chip : m.chip i ≡ h.chip
    same_chip =
        let a = lk.stands.path i low in
        let b = path in
        a.is ∙ chip-at rules (machine_of rules base) i b.moves a.moves (a.made ∙ booked ∙ sym b.made) ∙ sym b.is

    -- the core once the chip has announced
    abbrev s : Seen Chip Shared
    s = after rules (seen_at m p) (Announce i)

    tidy-s : IsTidy rules chip_ok shared_ok s
    tidy-s = tidy-announced (seen_at m p) lk.tidy i low

    stands-s : StandsFor rules (machine_of rules base) (seen rules base).bound t s.machine s.bound s.journal (count_of counts)
    stands-s = stands-announced base lk.base_core t lk.small (seen_at m p) lk.tidy (count_of counts) lk.stands i low

    abbrev announced_bounds : List Key
    announced_bounds = announced rules i (m.chip i) p.bounds

    bounds-s : (λ (k : ℕ). bound_in announced_bounds k) ≡ s.bound
    bounds-s = bounds-announced rules p.bounds i (m.chip i) (omega (arith, lk.bound_count, low))

    abbrev raised_bounds : List Key
    raised_bounds = raised rules i (m.chip i) p.bounds

    bounds-z : (λ (k : ℕ). bound_in raised_bounds k) ≡ put s.bound i (left_bound rules m i)
    bounds-z = bounds-raised rules p.bounds i (m.chip i) (omega (arith, lk.bound_count, low)) ∙ ap (λ b. put b i (left_bound rules m i)) bounds-s

    length-raised : length raised_bounds ≡ rules.count
    length-raised = length-set announced_bounds i (left_bound rules m i) ∙ length-set p.bounds i (key_of rules m i) ∙ lk.bound_count

    counts-next : count_of (slice_set counts i (h.amount + 1)) ≡ put (count_of counts) i (count_of counts i + 1)
    counts-next = set-put counts i (h.amount + 1) 0 inside ∙ ap (λ n. put (count_of counts) i (n + 1)) (sym booked)

    -- the chip's turn is an enabled event
    module _ (turn : HasTurn rules p i h.chip) where
      early : (key_of rules m i).cycle < t
      early = let e = turn.early in let c = ap (λ (x : Chip). (rules.next x).key.cycle) same_chip in omega (arith, lk.time)

      above : (j : ℕ) → j < rules.count → LooksAt rules (rules.next h.chip) i j → key_lt (key_of rules m i) (s.bound j) ≡ true
      above j q looks =
          ap (key_lt (key_of rules m i)) (put-other (seen_at m p).bound i (key_of rules m i) j looks.0)
          ∙ ap (λ (x : Chip). key_lt (rules.next x).key (bound_in p.bounds j)) same_chip ∙ turn.first j (omega (arith, lk.bound_count)) looks

      kind : (b : _) → (rules.next h.chip).sample ≡ b → is_sample rules m i ≡ b
      kind b e = ap (λ (x : Chip). (rules.next x).sample) same_chip ∙ e

      module _ (access : (rules.next h.chip).sample ≡ false) where
        enabled-access : IsEnabled rules s t (Perform i)
        enabled-access = (low, kind false access, early, λ j q ne. above j q (ne, λ s. absurd (true≢false (sym s ∙ access))))

        stands-access : StandsFor rules (machine_of rules base) (seen rules base).bound t (after rules s (Perform i)).machine (after rules s (Perform i)).bound (after rules s (Perform i)).journal (counted (count_of counts) (Perform i))
        stands-access = stands-next base lk.base_core t lk.small s tidy-s (count_of counts) stands-s (Perform i) enabled-access

        -- the journal has a free place for it
        pub place : length p.journal < p.room
        place =
            let few = few-entries base lk.base_core t lk.small (after rules s (Perform i)) (counted (count_of counts) (Perform i)) stands-access in
            let more = length-append p.journal ((rules.perform (m.chip i) m.shared).entry ∷ []) in
            omega (arith, lk.room)

        pub kept-access : IsLocked rules chip_ok shared_ok base t (after_access rules p i h.chip) (slice_set counts i (h.amount + 1))
        kept-access =
            subst (λ c. IsLocked rules chip_ok shared_ok base t (after_access rules p i c) (slice_set counts i (h.amount + 1))) same_chip
            (subst (λ x. IsLocked rules chip_ok shared_ok base t (after_access rules (record p { shared = x }) i (m.chip i)) (slice_set counts i (h.amount + 1))) lk.shared
            (record {
              base_core = lk.base_core;
              time = lk.time;
              small = lk.small;
              room = lk.room;
              bound_count = length-raised;
              machine = move rules m i;
              shared = shared-access rules m i (kind false access);
              tidy = subst (λ (b : ℕ → Key). IsTidy rules chip_ok shared_ok (record { machine = move rules m i; bound = b; journal = (after rules s (Perform i)).journal })) (sym bounds-z)
                  (tidy-after rules chip_ok shared_ok law s tidy-s (Perform i) (enabled-wider rules chip_ok shared_ok law s t cycle_limit lk.small (Perform i) enabled-access));
              stands = subst (λ (b : ℕ → Key). StandsFor rules (machine_of rules base) (seen rules base).bound t (move rules m i) b (after rules s (Perform i)).journal (count_of (slice_set counts i (h.amount + 1)))) (sym bounds-z)
                  (subst (λ (n : ℕ → ℕ). StandsFor rules (machine_of rules base) (seen rules base).bound t (move rules m i) (after rules s (Perform i)).bound (after rules s (Perform i)).journal n) (sym counts-next) stands-access);
            }))

        pub held-access : IsHeld rules chip_ok shared_ok base t (performed rules p h)
        held-access =
            subst (λ c. IsHeld rules chip_ok shared_ok base t (performed rules p (record h { chip = c }))) same_chip
            (subst (λ x. IsHeld rules chip_ok shared_ok base t (performed rules (record p { shared = x }) (record h { chip = m.chip i }))) lk.shared
            (record {
              inside = low;
              lease = tt;
              path = subst (λ n. OnPath rules (machine_of rules base) t i n (rules.advance (rules.perform (m.chip i) m.shared).chip)) (put-same (count_of counts) i (count_of counts i + 1) ∙ ap (λ n. n + 1) booked)
                  (subst (λ c. OnPath rules (machine_of rules base) t i (put (count_of counts) i (count_of counts i + 1) i) c) (chip-access rules m i (kind false access)) (stands-access.path i low));
              due = record {
                before = m.chip i;
                shared = m.shared;
                number = i;
                due = record { chip = lk.tidy.valid.chip i low; shared = lk.tidy.valid.shared; number = lk.tidy.valid.number i low; kind = kind false access; cycle = let e = early in omega (arith, lk.small) };
                is = refl;
              };
            }))

      module _ (sample : (rules.next h.chip).sample ≡ true) where
        enabled-sample : IsEnabled rules s t (Sample i)
        enabled-sample = (low, kind true sample, early, λ j q ne w. above j q (ne, λ _. w))

        stands-sample : StandsFor rules (machine_of rules base) (seen rules base).bound t (move rules m i) (after rules s (Sample i)).bound p.journal (counted (count_of counts) (Sample i))
        stands-sample = stands-next base lk.base_core t lk.small s tidy-s (count_of counts) stands-s (Sample i) enabled-sample

        pub kept-sample : IsLocked rules chip_ok shared_ok base t (record p { bounds = raised rules i h.chip p.bounds }) (slice_set counts i (h.amount + 1))
        kept-sample =
            subst (λ c. IsLocked rules chip_ok shared_ok base t (record p { bounds = raised rules i c p.bounds }) (slice_set counts i (h.amount + 1))) same_chip
            (record {
              base_core = lk.base_core;
              time = lk.time;
              small = lk.small;
              room = lk.room;
              bound_count = length-raised;
              machine = move rules m i;
              shared = shared-sample rules m i (kind true sample) ∙ lk.shared;
              tidy = subst (λ (b : ℕ → Key). IsTidy rules chip_ok shared_ok (record { machine = move rules m i; bound = b; journal = p.journal })) (sym bounds-z)
                  (tidy-after rules chip_ok shared_ok law s tidy-s (Sample i) (enabled-wider rules chip_ok shared_ok law s t cycle_limit lk.small (Sample i) enabled-sample));
              stands = subst (λ (b : ℕ → Key). StandsFor rules (machine_of rules base) (seen rules base).bound t (move rules m i) b p.journal (count_of (slice_set counts i (h.amount + 1)))) (sym bounds-z)
                  (subst (λ (n : ℕ → ℕ). StandsFor rules (machine_of rules base) (seen rules base).bound t (move rules m i) (after rules s (Sample i)).bound p.journal n) (sym counts-next) stands-sample);
            })

        -- the samples of a lease, one after the other
        module _ (end : Key) (until : IsLeaseEnd rules (record p { bounds = raised rules i h.chip p.bounds }) i end) where
          outer : (j : ℕ) → j ≢ i → bound_in (raised rules i h.chip p.bounds) j ≡ s.bound j
          outer j ne =
              get_or-set_other (announced rules i h.chip p.bounds) i j (record { cycle = (rules.next h.chip).key.cycle + rules.gap i; chip = i }) no_key ne
              ∙ get_or-set_other p.bounds i j (rules.next h.chip).key no_key ne ∙ sym (put-other (seen_at m p).bound i (key_of rules m i) j ne)

          many : length (raised rules i h.chip p.bounds) ≡ rules.count
          many = length-set (announced rules i h.chip p.bounds) i (record { cycle = (rules.next h.chip).key.cycle + rules.gap i; chip = i }) ∙ length-set p.bounds i (rules.next h.chip).key ∙ lk.bound_count

          limit : IsLimit rules t s.bound rules.count i end
          limit key below =
              let found = until.limit key below in (
                (let early = found.0 in omega (arith, lk.time)),
                λ j q ne w. subst (λ (b : Key). key_lt key b ≡ true) (outer j ne) (found.1 j (omega (arith, many)) ne w),
              )

          -- the first of them is one
          first : SamplesBelow rules end h.chip
          first = (
            sample,
            until.least (rules.next h.chip).key turn.early (λ j q ne w. ap (key_lt (rules.next h.chip).key) (outer j ne) ∙ ap (λ (x : Chip). key_lt (rules.next x).key (s.bound j)) (sym same_chip) ∙ above j (omega (arith, many)) (ne, λ _. w)),
          )

          small-end : key_lt (record { cycle = cycle_limit; chip = 0 }) end ≡ false
          small-end =
              by_test (key_lt (record { cycle = cycle_limit; chip = 0 }) end)
              (λ e. absurd (let far = (limit (record { cycle = cycle_limit; chip = 0 }) e).0 in let low = lk.small in omega arith))
              (λ e. e)

          record Goes (n : ℕ) (z : Seen Chip Shared) : Type 0 where
            tidy : IsTidy rules chip_ok shared_ok z
            limit : IsLimit rules t z.bound rules.count i end
            count : ℕ → ℕ
            more : count i ≡ h.amount + n
            stands : StandsFor rules (machine_of rules base) (seen rules base).bound t z.machine z.bound z.journal count

          one-more : (n : ℕ) (z : Seen Chip Shared) → Goes n z → SamplesBelow rules end (z.machine.chip i) → Goes (suc n) (after rules (after rules z (Sample i)) (Announce i))
          one-more n z g next = record {
            tidy = tidy-announced (after rules z (Sample i)) tidy i low;
            limit = limit-sampled rules t z rules.count i end g.limit;
            count = counted g.count (Sample i);
            more = put-same g.count i (g.count i + 1) ∙ (let e = g.more in omega arith);
            stands = stands-announced base lk.base_core t lk.small (after rules z (Sample i)) tidy (counted g.count (Sample i))
                (stands-next base lk.base_core t lk.small z g.tidy g.count g.stands (Sample i) en) i low;
          }
            where
              en : IsEnabled rules z t (Sample i)
              en = sample-enabled rules t z i end low next g.limit

              tidy : IsTidy rules chip_ok shared_ok (after rules z (Sample i))
              tidy = tidy-after rules chip_ok shared_ok law z g.tidy (Sample i) (enabled-wider rules chip_ok shared_ok law z t cycle_limit lk.small (Sample i) en)

          goes : (n : ℕ) → ((j : ℕ) → j < n → SamplesBelow rules end (sampled_n rules j (rules.pins m.shared i) (m.chip i))) → Goes n (sampled_on rules n s i)
          unfolding sampled_on
          goes zero each = record { tidy = tidy-s; limit = limit; count = count_of counts; more = booked ∙ (let e : h.amount ≡ h.amount + 0 = omega arith in e); stands = stands-s }
          goes (suc n) each =
              one-more n (sampled_on rules n s i) (goes n (λ j q. each j (omega arith)))
              (subst (λ (x : Chip). SamplesBelow rules end x) (sym (chip-on rules s i (rules.pins m.shared i) refl n (λ j q. (each j (omega arith)).0))) (each n (omega arith)))

          leased : IsLease rules chip_ok shared_ok base t i (h.amount + 1) (rules.pins m.shared i) end (m.chip i)
          leased k each =
              let g = goes (suc k) each in
              subst (λ n. OnPath rules (machine_of rules base) t i n (sampled_n rules (suc k) (rules.pins m.shared i) (m.chip i))) (g.more ∙ (let e : h.amount + suc k ≡ h.amount + 1 + k = omega arith in e))
              (subst (λ (x : Chip). OnPath rules (machine_of rules base) t i (g.count i) x) (chip-on rules s i (rules.pins m.shared i) refl (suc k) (λ j q. (each j q).0)) (g.stands.path i low))

          pub held-sample : IsHeld rules chip_ok shared_ok base t (sampled rules p i end h)
          held-sample =
              subst (λ x. IsHeld rules chip_ok shared_ok base t (sampled rules (record p { shared = x }) i end h)) lk.shared
              (record {
                inside = low;
                path = subst (λ n. OnPath rules (machine_of rules base) t i n (rules.sample h.chip (rules.pins m.shared i))) (put-same (count_of counts) i (count_of counts i + 1) ∙ ap (λ n. n + 1) booked)
                    (subst (λ c. OnPath rules (machine_of rules base) t i (put (count_of counts) i (count_of counts i + 1) i) c) (chip-sample rules m i (kind true sample) ∙ ap (λ x. rules.sample x (rules.pins m.shared i)) same_chip) (stands-sample.path i low));
                due = (
                  first,
                  small-end,
                  record { shared = m.shared; ok = lk.tidy.valid.shared; is = ap (rules.pins m.shared) (sym (lk.tidy.valid.number i low) ∙ ap (λ (x : Chip). (rules.next x).key.chip) same_chip) },
                  (let own = ap (λ (x : Chip). (rules.next x).key.chip) same_chip in let num = lk.tidy.valid.number i low in omega (arith, low)),
                );
                lease = subst (λ (x : Chip). IsLease rules chip_ok shared_ok base t i (h.amount + 1) (rules.pins m.shared i) end x) same_chip leased;
              })

  -- the bound that is not above the key of the chip that was found is below it, since their numbers
  -- differ
  pub blocked-found : (p : PartsValue Shared) (i total : ℕ) (h : HeldValue Chip Pins) → IsFound rules i p h total → (other : ℕ) (bound : Key) → (rules.next h.chip).key.cycle < p.end → FindsOther rules (rules.next h.chip) p.bounds i other
      → bound ≡ bound_in p.bounds other → IsBlocked rules p i h.chip other bound
  blocked-found p i total h found other bound early finds is =
      let count = found.bound_count in
      let room = finds.0 in
      let apart = finds.1.0 in
      let own = found.number in
      let inside = found.inside in
      let theirs = found.bound_number other (omega arith) in
      let few = law.few in
      let low = not_lt-rank (rules.next h.chip).key (bound_in p.bounds other) (omega arith) (omega arith) finds.2 in
      record {
        early = early;
        inside = finds.0;
        looked = finds.1;
        is = is;
        below = ap (λ (b : Key). key_lt b (rules.next h.chip).key) is ∙ rank-key_lt (bound_in p.bounds other) (rules.next h.chip).key (omega arith) (omega arith) (omega arith);
      }

  -- the same, where the chip has samples that are not counted yet, and the code has its number beside it
  module _ (base : CoreValue Chip Shared) (t : ℕ) (p : PartsValue Shared) (i : ℕ) (h : HeldValue Chip Pins) (hd : IsHeld rules chip_ok shared_ok base t h) (free : h.due ≡ Nothing) (number : h.number ≡ i)
      (paid ahead : ℕ) (all : h.amount ≡ paid + ahead) (on : IsAhead rules chip_ok shared_ok base t h.number h.due paid ahead) where
    inside-count : i < rules.count
    inside-count = let low = hd.inside in omega (arith, number)

    path-here : OnPath rules (machine_of rules base) t i h.amount h.chip
    path-here = subst (λ n. OnPath rules (machine_of rules base) t n h.amount h.chip) number (subst (λ (d : Due Pins). OnPath rules (machine_of rules base) t h.number h.amount (settled rules d h.chip)) free hd.path)

    -- the held chip under the number that the code has
    abbrev numbered : HeldValue Chip Pins
    numbered = record h { number = i }

    same-held : numbered ≡ h
    same-held = ap (λ n. record h { number = n }) (sym number)

    module _ (counts : List ℕ) (inside : i < length counts) (booked : count_of counts i ≡ paid) (lk : IsLocked rules chip_ok shared_ok base t p counts) where
      samples-here : AreSamples rules chip_ok shared_ok base t i (count_of counts i) ahead
      samples-here = subst (λ n. AreSamples rules chip_ok shared_ok base t i n ahead) (sym booked) (subst (λ n. AreSamples rules chip_ok shared_ok base t n paid ahead) number on.samples)

      all-here : h.amount ≡ count_of counts i + ahead
      all-here = all ∙ ap (λ n. n + ahead) (sym booked)

      abbrev reported : PartsValue Shared
      reported = record p { bounds = announced rules i h.chip p.bounds }

      abbrev paid_counts : List ℕ
      paid_counts = slice_set counts i h.amount

      pub kept-reported : IsLocked rules chip_ok shared_ok base t reported paid_counts
      kept-reported = kept-booked rules chip_ok shared_ok law base t p counts lk i ahead h.amount h.chip inside-count path-here samples-here all-here inside

      inside-reported : i < length paid_counts
      inside-reported = let n = length-set counts i h.amount in omega arith

      booked-reported : count_of paid_counts i ≡ h.amount
      booked-reported = get_or-set_same counts i h.amount 0 inside

      -- announcing twice is announcing once
      raised-reported : raised rules i h.chip reported.bounds ≡ raised rules i h.chip p.bounds
      raised-reported = ap (λ bs. slice_set bs i (record { cycle = (rules.next h.chip).key.cycle + rules.gap i; chip = i })) (set-set p.bounds i (rules.next h.chip).key (rules.next h.chip).key)

      counts-reported : (n : ℕ) → slice_set paid_counts i n ≡ slice_set counts i n
      counts-reported n = set-set counts i h.amount n

      turn-reported : HasTurn rules p i h.chip → HasTurn rules reported i h.chip
      turn-reported turn = record {
        early = turn.early;
        first = λ j q looks. ap (key_lt (rules.next h.chip).key) (get_or-set_other p.bounds i j (rules.next h.chip).key no_key looks.0)
            ∙ turn.first j (let n = length-set p.bounds i (rules.next h.chip).key in omega arith) looks;
      }

      pub place-here : HasPlaceFor rules p i h.chip
      place-here turn access = place base t reported paid_counts kept-reported numbered inside-count path-here inside-reported booked-reported (turn-reported turn) access

      pub kept-performed : (q : PartsValue Shared) (d : Chip) → IsStep rules p i h.chip Performed q d → (n : ℕ) → n ≡ h.amount + 1 → IsLocked rules chip_ok shared_ok base t q (slice_set counts i n)
      kept-performed q d is n e =
          subst (λ (x : PartsValue Shared). IsLocked rules chip_ok shared_ok base t x (slice_set counts i n)) (sym is.2)
          (subst (λ k. IsLocked rules chip_ok shared_ok base t (after_access rules p i h.chip) (slice_set counts i k)) (sym e)
          (subst (λ cs. IsLocked rules chip_ok shared_ok base t (after_access rules p i h.chip) cs) (counts-reported (h.amount + 1))
          (subst (λ bs. IsLocked rules chip_ok shared_ok base t (record (after_access rules p i h.chip) { bounds = bs }) (slice_set paid_counts i (h.amount + 1))) raised-reported
          (kept-access base t reported paid_counts kept-reported numbered inside-count path-here inside-reported booked-reported (turn-reported is.0) is.1))))

      pub kept-sampled : (q : PartsValue Shared) (d : Chip) (pins : Pins) (end : Key) → IsStep rules p i h.chip (Sampled pins end) q d → (n : ℕ) → n ≡ h.amount + 1 → IsLocked rules chip_ok shared_ok base t q (slice_set counts i n)
      kept-sampled q d pins end is n e =
          subst (λ (x : PartsValue Shared). IsLocked rules chip_ok shared_ok base t x (slice_set counts i n)) (sym is.3)
          (subst (λ k. IsLocked rules chip_ok shared_ok base t (record p { bounds = raised rules i h.chip p.bounds }) (slice_set counts i k)) (sym e)
          (subst (λ cs. IsLocked rules chip_ok shared_ok base t (record p { bounds = raised rules i h.chip p.bounds }) cs) (counts-reported (h.amount + 1))
          (subst (λ bs. IsLocked rules chip_ok shared_ok base t (record p { bounds = bs }) (slice_set paid_counts i (h.amount + 1))) raised-reported
          (kept-sample base t reported paid_counts kept-reported numbered inside-count path-here inside-reported booked-reported (turn-reported is.0) is.1))))

      pub kept-stayed : (q : PartsValue Shared) → q ≡ record p { bounds = announced rules i h.chip p.bounds } → (n : ℕ) → n ≡ h.amount → IsLocked rules chip_ok shared_ok base t q (slice_set counts i n)
      kept-stayed q is n e =
          subst (λ (x : PartsValue Shared). IsLocked rules chip_ok shared_ok base t x (slice_set counts i n)) (sym is)
          (subst (λ k. IsLocked rules chip_ok shared_ok base t reported (slice_set counts i k)) (sym e) kept-reported)

      pub held-performed : (q : PartsValue Shared) (d : Chip) → IsStep rules p i h.chip Performed q d → (n : ℕ) → n ≡ h.amount + 1 → IsHeld rules chip_ok shared_ok base t (record h { chip = d; due = Advance; amount = n })
      held-performed q d is n e =
          subst (λ (x : Chip). IsHeld rules chip_ok shared_ok base t (record h { chip = x; due = Advance; amount = n })) (sym is.3)
          (subst (λ k. IsHeld rules chip_ok shared_ok base t (record h { chip = (rules.perform h.chip p.shared).chip; due = Advance; amount = k })) (sym e)
          (subst (λ (x : HeldValue Chip Pins). IsHeld rules chip_ok shared_ok base t (performed rules p x)) same-held
          (held-access base t reported paid_counts kept-reported numbered inside-count path-here inside-reported booked-reported (turn-reported is.0) is.1)))

      pub held-sampled : (q : PartsValue Shared) (d : Chip) (pins : Pins) (end : Key) → IsStep rules p i h.chip (Sampled pins end) q d → (n : ℕ) → n ≡ h.amount + 1
          → IsHeld rules chip_ok shared_ok base t (record h { chip = d; due = Dues.Sample pins end; amount = n })
      held-sampled q d pins end is n e =
          subst (λ (x : Chip). IsHeld rules chip_ok shared_ok base t (record h { chip = x; due = Dues.Sample pins end; amount = n })) (sym is.4)
          (subst (λ (x : Pins). IsHeld rules chip_ok shared_ok base t (record h { due = Dues.Sample x end; amount = n })) (sym is.2)
          (subst (λ k. IsHeld rules chip_ok shared_ok base t (record h { due = Dues.Sample (rules.pins p.shared i) end; amount = k })) (sym e)
          (subst (λ (x : HeldValue Chip Pins). IsHeld rules chip_ok shared_ok base t (sampled rules p i end x)) same-held
          (held-sample base t reported paid_counts kept-reported numbered inside-count path-here inside-reported booked-reported (turn-reported is.0) is.1 end
          (subst (λ (bs : List Key). IsLeaseEnd rules (record p { bounds = bs }) i end) (sym raised-reported) (subst (λ (x : PartsValue Shared). IsLeaseEnd rules x i end) is.3 is.5))))))

    module _ (at : IsLockedAt rules chip_ok shared_ok base t p i paid) where
      pub place-at : HasPlaceFor rules p i h.chip
      place-at = place-here at.counts at.inside at.booked at.locked

      -- how the section finds the chip
      pub found-at : (k : HeldValue Chip Pins) → h ≡ k → IsFound rules i p k paid
      found-at k same =
          subst (λ (x : HeldValue Chip Pins). IsFound rules i p x paid) same
          (record {
            inside = inside-count;
            free = free;
            number = found-number rules chip_ok shared_ok law base t p at.counts at.locked i ahead h.amount h.chip inside-count path-here (samples-here at.counts at.inside at.booked at.locked) (all-here at.counts at.inside at.booked at.locked) at.inside;
            bound_count = at.locked.bound_count;
            bound_number = at.locked.tidy.bound_number;
            under = found-under rules chip_ok shared_ok law base t p at.counts at.locked i ahead h.amount h.chip inside-count path-here (samples-here at.counts at.inside at.booked at.locked) (all-here at.counts at.inside at.booked at.locked) at.inside;
            booked = omega (arith, all);
          })

      pub held-performed-at : (q : PartsValue Shared) (d : Chip) → IsStep rules p i h.chip Performed q d → (n : ℕ) → n ≡ h.amount + 1 → IsHeld rules chip_ok shared_ok base t (record h { chip = d; due = Advance; amount = n })
      held-performed-at = held-performed at.counts at.inside at.booked at.locked

      pub held-sampled-at : (q : PartsValue Shared) (d : Chip) (pins : Pins) (end : Key) → IsStep rules p i h.chip (Sampled pins end) q d → (n : ℕ) → n ≡ h.amount + 1
          → IsHeld rules chip_ok shared_ok base t (record h { chip = d; due = Dues.Sample pins end; amount = n })
      held-sampled-at = held-sampled at.counts at.inside at.booked at.locked
