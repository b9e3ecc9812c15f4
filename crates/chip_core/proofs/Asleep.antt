-- A chip that sleeps: what the others do meanwhile is what they do once it has made its samples.
use Rattle.std.proofs.Common.{◌≡◌, ◌≢◌, ℕ, zero, suc, ◌+◌, ◌-◌, ◌<◌, ◌≤◌, true, false, refl, sym, ◌∙◌, ap, ap₂, subst, arith, ◌⊎◌, inl, inr, length, true≢false}
use Rattle.std.proofs.lemmas.Bool.{cases_lt}
use Rattle.md_word.specs.Clock.{cycle_limit}
use Rattle.md_word.specs.declared.key.Key.{Key}
use Rattle.md_word.specs.Keys.{key_lt}
use Rattle.chip_core.specs.declared.event.Event.TheVariants.{Announce, Sample}
use Rattle.chip_core.specs.Chips.{AreBelow, ArePins, Lawful, Rests, Rules, SamplesBelow, WritesNone, sampled}
use Rattle.chip_core.specs.Events.{AreKeys, HasPlace, HasRoom, IsTidy, IsTurn, Reaches, SamplesOn, Seen, after, own_event, past_access, sampled_on}
use Rattle.chip_core.specs.Looks.{IsLimit}
use Rattle.chip_core.specs.Machines.{is_sample, key_of}
use Rattle.chip_core.specs.Resting.{AreOthersLate, IsFirstOther, SamplesWithin, Sleeps, caught_up, with_chip}
use Rattle.chip_core.proofs.Going.{all-risen, below-end}
use Rattle.chip_core.proofs.Keeps.{key-itself, tidy-leads}
use Rattle.chip_core.proofs.Keys.{by_test, earlier-key, lt-through, put-each, put-other, put-same, same_or}
use Rattle.chip_core.proofs.Sampling.{next-on, on-sampled, sampled-on}
use Rattle.chip_core.proofs.Turns.{keys-past, own-place, past-reaches, put-back, reaches-itself, reaches-on, room-there, turn-enabled}
use Rattle.chip_core.proofs.Keys.{apart-lt, before-start, cycle-not_lt, not_lt-back, not_lt-trans, start-later}
use Rattle.chip_core.proofs.Apart.{chip-past, chip-samples, own-apart, past-apart, samples-apart, shared-samples}
use Rattle.chip_core.proofs.Fewer.{leads-later, past-later}

module _ {Chip Shared Pins : Type 0} (rules : Rules Chip Shared Pins) where
  -- the sleeper's samples, counted
  module _ (s : Seen Chip Shared) (i : ℕ) (pins : Pins) (shown : pins ≡ rules.pins s.machine.shared i) (rests : Rests rules pins (s.machine.chip i)) where
    pub more-caught : (a b n : ℕ) → n ≡ a + b → sampled_on rules b (caught_up rules a i pins s) i ≡ caught_up rules n i pins s
    unfolding sampled_on sampled
    more-caught a zero n e = ap (λ m. caught_up rules m i pins s) (let same : a ≡ n = omega (arith, e) in same)
    more-caught a (suc b) n e =
        ap (λ z. after rules (after rules z (Sample i)) (Announce i)) (more-caught a b (a + b) refl)
        ∙ next-on rules s i (sampled rules (a + b) pins (s.machine.chip i)) (rests (a + b))
        ∙ ap (λ p. with_chip rules s i (rules.sample (sampled rules (a + b) pins (s.machine.chip i)) p)) (sym shown)
        ∙ ap (λ m. caught_up rules m i pins s) (let same : suc (a + b) ≡ n = omega (arith, e) in same)

  pub rests-now : (pins : Pins) (c : Chip) → Rests rules pins c → (rules.next c).sample ≡ true
  unfolding sampled
  rests-now pins c rests = rests 0

  -- the samples below a key are so many
  pub record Found (end : Key) (m : ℕ) (pins : Pins) (c : Chip) : Type 0 where
    pub count : ℕ
    pub within : count < m
    pub are : AreBelow rules end count pins c

  module _ (end : Key) (pins : Pins) (c : Chip) (rests : Rests rules pins c) where
    found-or : (m : ℕ) → ((k : ℕ) → k < m → SamplesBelow rules end (sampled rules k pins c)) ⊎ Found end m pins c
    found-or zero = inl (λ k h. absurd (omega arith))
    found-or (suc m) =
        elim (found-or m) [
          | inl each ↦ by_test (key_lt (rules.next (sampled rules m pins c)).key end)
              (λ e. inl (λ k h. more each e k h (same_or k m)))
              (λ e. inr (record { count = m; within = omega arith; are = record { each = each; ended = λ b. true≢false (sym b.1 ∙ e) } }))
          | inr found ↦ inr (record { count = found.count; within = (let w = found.within in omega arith); are = found.are })
        ]
      where
        more : ((k : ℕ) → k < m → SamplesBelow rules end (sampled rules k pins c)) → key_lt (rules.next (sampled rules m pins c)).key end ≡ true
            → (k : ℕ) → k < suc m → (k ≡ m) ⊎ (k ≢ m) → SamplesBelow rules end (sampled rules k pins c)
        more each e k h (inl same) = subst (λ n. SamplesBelow rules end (sampled rules n pins c)) (sym same) (rests m, e)
        more each e k h (inr ne) = each k (omega arith)

    -- they are at most as many as lead to a sample that is not below
    pub found-by : (n : ℕ) → (SamplesBelow rules end (sampled rules n pins c) → ⊥) → Found end (suc n) pins c
    found-by n ended =
        elim (found-or (suc n)) [
          | inl each ↦ absurd (ended (each n (omega arith)))
          | inr found ↦ found
        ]

module _ {Chip Shared Pins : Type 0} (rules : Rules Chip Shared Pins) (chip_ok : Chip → Type 0) (shared_ok : Shared → Type 0) (law : Lawful rules chip_ok shared_ok) where
  -- chip i sleeps with these pins: its samples below a key, before which none of the others comes,
  -- lead to where enabled events lead
  pub record Asleep (t i : ℕ) (pins : Pins) (s z : Seen Chip Shared) : Type 0 where
    pub upto : Key
    pub sleeps : Sleeps rules t upto i pins s z
    pub low : upto.cycle < t
    pub own : key_lt upto (key_of rules s.machine i) ≡ false
    pub others : (k : ℕ) → k < rules.count → k ≢ i → key_lt (z.bound k) upto ≡ false
    pub shown : pins ≡ rules.pins z.machine.shared i

  -- a chip that rests has a sample that is not below a key
  found-some : (pins : Pins) (i : ℕ) → ArePins rules shared_ok pins i → i < rules.count → (end : Key) → key_lt (record { cycle = cycle_limit; chip = 0 }) end ≡ false
      → (c : Chip) → chip_ok c → (rules.next c).key.chip ≡ i → Rests rules pins c → Found rules end (end.cycle + 2) pins c
  found-some pins i are h end small c ok number rests =
      elim (found-or rules end pins c rests (end.cycle + 2)) [
        | inl each ↦ absurd (
            let rise = (all-risen rules chip_ok shared_ok law pins i are h end small c ok number (end.cycle + 1) (λ k q. each k (omega arith))).later in
            let low = below-end (rules.next (sampled rules (end.cycle + 1) pins c)).key end (each (end.cycle + 1) (omega arith)).1 in
            omega arith)
        | inr found ↦ found
      ]

  module _ (t : ℕ) (small : t ≤ cycle_limit) where
    module _ (s : Seen Chip Shared) (tidy : IsTidy rules chip_ok shared_ok s) (i : ℕ) (h : i < rules.count) (pins : Pins) where
      module _ (z : Seen Chip Shared) (upto : Key) (sleeps : Sleeps rules t upto i pins s z) (rests : Rests rules pins (z.machine.chip i)) where
        tidy-caught : (n : ℕ) → AreBelow rules upto n pins (z.machine.chip i) → IsTidy rules chip_ok shared_ok (caught_up rules n i pins z)
        tidy-caught n are = let r = sleeps.led n are in tidy-leads rules chip_ok shared_ok law t small s tidy r.0 (caught_up rules n i pins z) r.1

        -- with the samples below a later key, before which none of the others comes
        module _ (shown : pins ≡ rules.pins z.machine.shared i) (end : Key) (later : key_lt end upto ≡ false) (limit : IsLimit rules t z.bound rules.count i end) where
          module _ (n : ℕ) (are : AreBelow rules end n pins (z.machine.chip i)) where
            found : Found rules upto (suc n) pins (z.machine.chip i)
            found = found-by rules upto pins (z.machine.chip i) rests n (λ b. are.ended (b.0, lt-through (rules.next (sampled rules n pins (z.machine.chip i))).key upto end b.1 later))

            abbrev before : Seen Chip Shared
            before = caught_up rules found.count i pins z

            limit-before : IsLimit rules t before.bound rules.count i end
            limit-before key below =
                let l = limit key below in
                (l.0, λ j q ne w. subst (λ b. key_lt key b ≡ true) (sym (put-other z.bound i (rules.next (sampled rules found.count pins (z.machine.chip i))).key j ne)) (l.1 j q ne w))

            chip-before : (k : ℕ) → (sampled_on rules k before i).machine.chip i ≡ sampled rules (found.count + k) pins (z.machine.chip i)
            chip-before k =
                ap (λ (x : Seen Chip Shared). x.machine.chip i) (more-caught rules z i pins shown rests found.count k (found.count + k) refl)
                ∙ put-same z.machine.chip i (sampled rules (found.count + k) pins (z.machine.chip i))

            on : found.count < n → SamplesOn rules end i before (caught_up rules n i pins z)
            on lt = record {
              samples = n - found.count;
              some = omega arith;
              each = λ k q. subst (λ c. SamplesBelow rules end c) (sym (chip-before k)) (are.each (found.count + k) (omega arith));
              is = sym (more-caught rules z i pins shown rests found.count (n - found.count) n (omega arith));
            }

            pub further : Reaches rules t s (caught_up rules n i pins z)
            further =
                elim (cases_lt found.count n) [
                  | inl lt ↦ reaches-on rules t s before (caught_up rules n i pins z) (sleeps.led found.count found.are)
                      (sampled-on rules chip_ok shared_ok law t small before (tidy-caught found.count found.are) i h end limit-before (caught_up rules n i pins z) (on lt)).led
                  | inr le ↦ subst (λ m. Reaches rules t s (caught_up rules m i pins z)) (let w = found.within in let same : found.count ≡ n = omega (arith, le, w) in same) (sleeps.led found.count found.are)
                ]

          pub sleeps-further : Sleeps rules t end i pins s z
          sleeps-further = record { chip = sleeps.chip; led = further }

        -- with the samples of another chip within its limit
        module _ (j : ℕ) (hj : j < rules.count) (ne : j ≢ i) (apart : WritesNone rules i) (w : Seen Chip Shared) (within : SamplesWithin rules t j z w) where
          kinds : (k : ℕ) → k < within.samples → is_sample rules (sampled_on rules k z j).machine j ≡ true
          kinds k q = (within.each k q).0

          chip-within : w.machine.chip i ≡ z.machine.chip i
          chip-within = ap (λ (x : Seen Chip Shared). x.machine.chip i) within.is ∙ chip-samples rules i j ne z within.samples kinds

          module _ (n : ℕ) (are : AreBelow rules upto n pins (z.machine.chip i)) where
            abbrev v : Seen Chip Shared
            v = caught_up rules n i pins z

            abbrev c : Chip
            c = sampled rules n pins (z.machine.chip i)

            limit-v : IsLimit rules t v.bound rules.count j within.end
            limit-v key below =
                let l = within.limit key below in (
                  l.0,
                  λ k q nj wr. subst (λ b. key_lt key b ≡ true)
                      (sym (put-other z.bound i (rules.next c).key k (λ same. true≢false (sym wr ∙ ap (λ m. rules.writes m j) same ∙ apart j hj)))) (l.1 k q nj wr),
                )

            each-v : (k : ℕ) → k < within.samples → SamplesBelow rules within.end ((sampled_on rules k v j).machine.chip j)
            each-v k q =
                subst (λ x. SamplesBelow rules within.end x)
                (sym (ap (λ (x : Seen Chip Shared). x.machine.chip j) (samples-apart rules i j ne z c k (λ m p. kinds m (omega arith))) ∙ put-other (sampled_on rules k z j).machine.chip i c j ne)) (within.each k q)

            led-within : Reaches rules t s (with_chip rules w i c)
            led-within =
                reaches-on rules t s v (with_chip rules w i c) (sleeps.led n are)
                (subst (λ (x : Seen Chip Shared). Reaches rules t v x) (samples-apart rules i j ne z c within.samples kinds ∙ ap (λ (x : Seen Chip Shared). with_chip rules x i c) (sym within.is))
                (on-sampled rules chip_ok shared_ok law t small v (tidy-caught n are) j hj within.end limit-v within.samples each-v).led)

          pub sleeps-within : Sleeps rules t upto i pins s w
          sleeps-within = record {
            chip = chip-within ∙ sleeps.chip;
            led = λ n are. subst (λ x. Reaches rules t s (with_chip rules w i (sampled rules n pins x))) (sym chip-within)
                (led-within n (subst (λ x. AreBelow rules upto n pins x) chip-within are));
          }

      -- the event of the chip of first other bound
      module _ (z : Seen Chip Shared) (asleep : Asleep t i pins s z) (rests : Rests rules pins (s.machine.chip i)) (keys : AreKeys rules z rules.count) (tidy-z : IsTidy rules chip_ok shared_ok z)
          (j : ℕ) (first : IsFirstOther t z.bound rules.count i j) where
        rests-z : Rests rules pins (z.machine.chip i)
        rests-z = subst (λ c. Rests rules pins c) (sym asleep.sleeps.chip) rests

        later : key_lt (z.bound j) asleep.upto ≡ false
        later = asleep.others j first.inside first.other

        limit-first : IsLimit rules t z.bound rules.count i (z.bound j)
        limit-first key below = (
          (let low = first.low in let le = below-end key (z.bound j) below in omega arith),
          λ k q ne _. lt-through key (z.bound j) (z.bound k) below (first.least k q ne),
        )

        sleeps-z : Sleeps rules t (z.bound j) i pins s z
        sleeps-z = sleeps-further z asleep.upto asleep.sleeps rests-z asleep.shown (z.bound j) later limit-first

        module _ (n : ℕ) (are : AreBelow rules (z.bound j) n pins (z.machine.chip i)) where
          abbrev u : Seen Chip Shared
          u = caught_up rules n i pins z

          tidy-u : IsTidy rules chip_ok shared_ok u
          tidy-u = tidy-caught z (z.bound j) sleeps-z rests-z n are

          key-u : key_of rules u.machine j ≡ z.bound j
          key-u = ap (λ (c : Chip). (rules.next c).key) (put-other z.machine.chip i (sampled rules n pins (z.machine.chip i)) j first.other) ∙ sym (keys j first.inside)

          sleeper : key_lt (z.bound j) (rules.next (sampled rules n pins (z.machine.chip i))).key ≡ true
          sleeper =
              by_test (key_lt (rules.next (sampled rules n pins (z.machine.chip i))).key (z.bound j))
              (λ e. absurd (are.ended (rests-z n, e)))
              (λ e. apart-lt (rules.next (sampled rules n pins (z.machine.chip i))).key (z.bound j)
              (λ same. first.other (sym (tidy-z.bound_number j first.inside) ∙ sym same
              ∙ ap (λ (c : Chip). (rules.next c).key.chip) (sym (put-same z.machine.chip i (sampled rules n pins (z.machine.chip i)))) ∙ tidy-u.valid.number i h)) e)

          pub turn-caught : IsTurn rules t u j
          turn-caught = record {
            inside = first.inside;
            low = subst (λ (k : Key). k.cycle < t) (sym key-u) first.low;
            first = λ k q ne. subst (λ x. key_lt x (u.bound k) ≡ true) (sym key-u)
                (put-each (λ m b. m ≢ j → m < rules.count → key_lt (z.bound j) b ≡ true) z.bound i (rules.next (sampled rules n pins (z.machine.chip i))).key k
                (λ _ _ _. sleeper)
                (λ ni nj m. apart-lt (z.bound k) (z.bound j) (λ same. nj (sym (tidy-z.bound_number k m) ∙ same ∙ tidy-z.bound_number j first.inside)) (first.least k m ni))
                ne q);
          }

          led-past : Reaches rules t s (with_chip rules (past_access rules z j) i (sampled rules n pins (z.machine.chip i)))
          led-past =
              reaches-on rules t s u (with_chip rules (past_access rules z j) i (sampled rules n pins (z.machine.chip i))) (sleeps-z.led n are)
              (subst (λ (x : Seen Chip Shared). Reaches rules t u x) (past-apart rules i j first.other z (sampled rules n pins (z.machine.chip i)))
              (past-reaches rules chip_ok shared_ok law t small u tidy-u j first.inside (turn-enabled rules t u j turn-caught)))

          place-caught : (room : ℕ) → HasRoom rules t s room → HasPlace (length z.journal) room (own_event rules z j)
          place-caught room has =
              subst (λ e. HasPlace (length z.journal) room e) (own-apart rules i j first.other z (sampled rules n pins (z.machine.chip i)))
              (own-place rules t room u (room-there rules chip_ok shared_ok law t room s u has (sleeps-z.led n are)) j (turn-enabled rules t u j turn-caught))

        pub sleeps-past : Sleeps rules t (z.bound j) i pins s (past_access rules z j)
        sleeps-past = record {
          chip = chip-past rules i j first.other z ∙ asleep.sleeps.chip;
          led = λ n are. subst (λ c. Reaches rules t s (with_chip rules (past_access rules z j) i (sampled rules n pins c))) (sym (chip-past rules i j first.other z))
              (led-past n (subst (λ c. AreBelow rules (z.bound j) n pins c) (chip-past rules i j first.other z) are));
        }

        pub place-past : (room : ℕ) → HasRoom rules t s room → HasPlace (length z.journal) room (own_event rules z j)
        place-past room has =
            let found = found-some pins i (record { shared = z.machine.shared; ok = tidy-z.valid.shared; is = asleep.shown }) h (z.bound j)
            (start-later cycle_limit (z.bound j) (let low = first.low in omega arith)) (z.machine.chip i) (tidy-z.valid.chip i h) (tidy-z.valid.number i h) rests-z in
            place-caught found.count found.are room has

        -- which left its pins
        pub asleep-past : IsTidy rules chip_ok shared_ok (past_access rules z j) → rules.pins (past_access rules z j).machine.shared i ≡ rules.pins z.machine.shared i → Asleep t i pins s (past_access rules z j)
        asleep-past tidy-past stays = record {
          upto = z.bound j;
          sleeps = sleeps-past;
          low = first.low;
          own = not_lt-trans (key_of rules s.machine i) asleep.upto (z.bound j) asleep.own later;
          others = λ k q ne. not_lt-trans (z.bound j) (z.bound k) ((past_access rules z j).bound k) (first.least k q ne)
              (cycle-not_lt (z.bound k) ((past_access rules z j).bound k) (tidy-z.bound_number k q ∙ sym (tidy-past.bound_number k q))
              (let rise = past-later rules chip_ok shared_ok law z tidy-z j first.inside (let low = first.low in let same = ap (λ (x : Key). x.cycle) (keys j first.inside) in omega arith) k in
              let a = ap (λ (x : Key). x.cycle) (keys k q) in
              let b = ap (λ (x : Key). x.cycle) (keys-past rules z j keys k q) in
              omega arith));
          shown = asleep.shown ∙ sym stays;
        }

      -- samples of another chip
      pub asleep-within : (z : Seen Chip Shared) → Asleep t i pins s z → Rests rules pins (s.machine.chip i) → WritesNone rules i → IsTidy rules chip_ok shared_ok z → AreKeys rules z rules.count → (j : ℕ) → j < rules.count → j ≢ i
          → (w : Seen Chip Shared) → IsTidy rules chip_ok shared_ok w → AreKeys rules w rules.count → SamplesWithin rules t j z w → Reaches rules t z w → Asleep t i pins s w
      asleep-within z asleep rests apart tidy-z keys j hj ne w tidy-w keys-w within r = record {
        upto = asleep.upto;
        sleeps = sleeps-within z asleep.upto asleep.sleeps (subst (λ c. Rests rules pins c) (sym asleep.sleeps.chip) rests) j hj ne apart w within;
        low = asleep.low;
        own = asleep.own;
        others = λ k q nk. not_lt-trans asleep.upto (z.bound k) (w.bound k) (asleep.others k q nk)
            (cycle-not_lt (z.bound k) (w.bound k) (tidy-z.bound_number k q ∙ sym (tidy-w.bound_number k q))
            (let rise = leads-later rules chip_ok shared_ok law t small z tidy-z r.0 w r.1 k in
            let a = ap (λ (x : Key). x.cycle) (keys k q) in
            let b = ap (λ (x : Key). x.cycle) (keys-w k q) in
            omega arith));
        shown = asleep.shown ∙ ap (λ x. rules.pins x i) (sym (ap (λ (x : Seen Chip Shared). x.machine.shared) within.is ∙ shared-samples rules z j within.samples (λ k q. (within.each k q).0)));
      }

      -- none of the others is below the cycle any more
      pub sleeps-end : (z : Seen Chip Shared) → Asleep t i pins s z → Rests rules pins (s.machine.chip i) → AreOthersLate t z.bound rules.count i → Sleeps rules t (record { cycle = t; chip = 0 }) i pins s z
      sleeps-end z asleep rests late =
          sleeps-further z asleep.upto asleep.sleeps (subst (λ c. Rests rules pins c) (sym asleep.sleeps.chip) rests) asleep.shown (record { cycle = t; chip = 0 }) (start-later t asleep.upto asleep.low)
          (λ key below. (before-start t key below, λ k q ne _. earlier-key key (z.bound k) (let low = before-start t key below in let far = late k q ne in omega arith)))

      -- it falls asleep
      pub asleep-first : IsTurn rules t s i → AreKeys rules s rules.count → pins ≡ rules.pins s.machine.shared i → Asleep t i pins s s
      unfolding sampled
      asleep-first turn keys shown = record {
        upto = key_of rules s.machine i;
        sleeps = record { chip = refl; led = λ n are. none n are };
        low = turn.low;
        own = key-itself rules chip_ok shared_ok law (key_of rules s.machine i);
        others = λ k q ne. not_lt-back (key_of rules s.machine i) (s.bound k) (turn.first k q ne);
        shown = shown;
      }
        where
          back : caught_up rules 0 i pins s ≡ s
          back =
              ap₂ (λ (f : ℕ → Chip) (b : ℕ → Key). record { machine = record { shared = s.machine.shared; chip = f }; bound = b; journal = s.journal })
              (put-back s.machine.chip i (s.machine.chip i) refl) (put-back s.bound i (key_of rules s.machine i) (keys i h))

          none : (n : ℕ) → AreBelow rules (key_of rules s.machine i) n pins (s.machine.chip i) → Reaches rules t s (caught_up rules n i pins s)
          none zero are = subst (λ (x : Seen Chip Shared). Reaches rules t s x) (sym back) (reaches-itself rules t s)
          none (suc n) are = absurd (true≢false (sym (are.each 0 (omega arith)).1 ∙ key-itself rules chip_ok shared_ok law (key_of rules s.machine i)))
