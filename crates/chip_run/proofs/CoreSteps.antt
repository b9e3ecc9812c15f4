-- A section is the core's announcement of the chip where it is enabled, and the chip's own event in its
-- turn.
use Rattle.std.proofs.Common.{◌≡◌, ◌≢◌, ℕ, ◌+◌, ◌<◌, ◌≤◌, true, false, cond, refl, sym, ◌∙◌, ap, ap₂, subst, arith, List, [], ◌∷◌, ◌++◌, Some, None, length, length-set, get_or-set_other, get_or-set_same, true≢false}
use Rattle.std.proofs.lemmas.Option.{same_Some}
use mathlib.Core.Path.{fun_ext}
use Rattle.md_word.specs.declared.key.Key.{Key}
use Rattle.md_word.specs.Keys.{key_lt}
use Rattle.chip_core.specs.declared.event.Event.{Event}
use Rattle.chip_core.specs.declared.event.Event.TheVariants.{Announce, Perform, Sample}
use Rattle.chip_core.specs.Chips.{Rules}
use Rattle.chip_core.specs.Cores.{bound_in, no_key}
use Rattle.chip_core.specs.Equations.{by_test, move-access, move-sample, put-same}
use Rattle.chip_core.specs.Events.{IsEnabled, Seen, after, left_bound, own_event}
use Rattle.chip_core.specs.Machines.{Machine, is_sample, key_of, put}
use Rattle.chip_core.proofs.Keys.{put-each}
use Rattle.chip_core.proofs.Lists.{set-put}
use Rattle.chip_core.proofs.Turns.{put-twice}
use Rattle.chip_run.specs.CoreSteps.{IsAfterEnabled, IsCoreSection, IsCoreTurn, core_with}
use Rattle.chip_run.specs.Held.{HeldValue, settled}
use Rattle.chip_run.specs.Locked.{LockedValue, seen_at}
use Rattle.chip_run.specs.Parts.{PartsValue}
use Rattle.chip_run.specs.Places.{Places, place}
use Rattle.chip_run.specs.Sections.{IsBlocked, IsFound, IsSection, IsTurn, performed, sampled}
use Rattle.chip_run.specs.Steps.{HasTurn, after_access, announced, raised}
use Rattle.chip_run.specs.declared.turn.Turn.{Turn}
use Rattle.chip_run.specs.declared.turn.Turn.TheVariants.{Moved, Blocked, Finished}
use Rattle.chip_run.proofs.KeyOrder.{not-both, same-key}
use Rattle.chip_run.proofs.Places.{place-in}

module _ {Chip Shared Pins : Type 0} (rules : Rules Chip Shared Pins) where
  -- the bounds of the lists, as functions
  pub bounds-announced : (bounds : List Key) (i : ℕ) (c : Chip) → i < length bounds → (λ (k : ℕ). bound_in (announced rules i c bounds) k) ≡ put (λ k. bound_in bounds k) i (rules.next c).key
  bounds-announced bounds i c inside = set-put bounds i (rules.next c).key no_key inside

  pub bounds-raised : (bounds : List Key) (i : ℕ) (c : Chip) → i < length bounds
      → (λ (k : ℕ). bound_in (raised rules i c bounds) k) ≡ put (λ k. bound_in (announced rules i c bounds) k) i (record { cycle = (rules.next c).key.cycle + rules.gap i; chip = i })
  bounds-raised bounds i c inside =
      set-put (announced rules i c bounds) i (record { cycle = (rules.next c).key.cycle + rules.gap i; chip = i }) no_key (let l = length-set bounds i (rules.next c).key in omega arith)

  -- an announcement of the key that the bound already is changes nothing
  pub announced-same : (s : Seen Chip Shared) (i : ℕ) → key_of rules s.machine i ≡ s.bound i → after rules s (Announce i) ≡ s
  announced-same s i same =
      ap (λ (b : ℕ → Key). record { machine = s.machine; bound = b; journal = s.journal })
      (fun_ext (λ k. put-each (λ n b. b ≡ s.bound n) s.bound i (key_of rules s.machine i) k (λ _. same) (λ _. refl)))

  module _ (chips : ℕ → Chip) (p : PartsValue Shared) (i : ℕ) (inside : i < rules.count) (count : length p.bounds ≡ rules.count) where
    abbrev machine : Machine Chip Shared
    machine = record { shared = p.shared; chip = chips }

    abbrev between : Seen Chip Shared
    between = seen_at machine (record p { bounds = announced rules i (chips i) p.bounds })

    announces : (number : (rules.next (chips i)).key.chip ≡ i) → (bound_in p.bounds i).chip ≡ i → key_lt (rules.next (chips i)).key (bound_in p.bounds i) ≡ false
        → IsAfterEnabled rules p.end (seen_at machine p) (Announce i) between
    announces number bound under = record { enabled = λ _. is; refused = λ no. by_test (key_lt (bound_in p.bounds i) (rules.next (chips i)).key) (λ e. absurd (no (inside, e))) (λ e. is ∙ same e) }
      where
        is : between ≡ after rules (seen_at machine p) (Announce i)
        is = ap (λ (b : ℕ → Key). record { machine = machine; bound = b; journal = p.journal }) (bounds-announced p.bounds i (chips i) (omega (arith, inside, count)))

        same : key_lt (bound_in p.bounds i) (rules.next (chips i)).key ≡ false → after rules (seen_at machine p) (Announce i) ≡ seen_at machine p
        same e = announced-same (seen_at machine p) i (same-key (rules.next (chips i)).key (bound_in p.bounds i) (number ∙ sym bound) under e)

    other-bound : (j : ℕ) → j ≢ i → between.bound j ≡ bound_in p.bounds j
    other-bound j ne = get_or-set_other p.bounds i j (rules.next (chips i)).key no_key ne

    own-access : is_sample rules machine i ≡ false → own_event rules between i ≡ Perform i
    own-access e = ap (λ b. cond b (Sample i) (Perform i)) e

    own-sample : is_sample rules machine i ≡ true → own_event rules between i ≡ Sample i
    own-sample e = ap (λ b. cond b (Sample i) (Perform i)) e

    abbrev Leaves : Seen Chip Shared → Type 0
    Leaves z = IsAfterEnabled rules p.end between (own_event rules between i) z

    -- at its turn the chip's event is enabled
    module _ (turn : HasTurn rules p i (chips i)) where
      above : is_sample rules machine i ≡ false → (j : ℕ) → j < rules.count → j ≢ i → key_lt (key_of rules machine i) (between.bound j) ≡ true
      above access j q ne = ap (key_lt (key_of rules machine i)) (other-bound j ne) ∙ turn.first j (omega (arith, count)) (ne, λ s. absurd (true≢false (sym s ∙ access)))

      looked : (j : ℕ) → j < rules.count → j ≢ i → rules.writes j i ≡ true → key_lt (key_of rules machine i) (between.bound j) ≡ true
      looked j q ne w = ap (key_lt (key_of rules machine i)) (other-bound j ne) ∙ turn.first j (omega (arith, count)) (ne, λ _. w)

      raised-is : (λ (k : ℕ). bound_in (raised rules i (chips i) p.bounds) k) ≡ put between.bound i (left_bound rules machine i)
      raised-is = bounds-raised p.bounds i (chips i) (omega (arith, inside, count))

      performs : is_sample rules machine i ≡ false → Leaves (seen_at (record { shared = (rules.perform (chips i) p.shared).shared; chip = put chips i (rules.advance (rules.perform (chips i) p.shared).chip) }) (after_access rules p i (chips i)))
      performs access =
          subst (λ (e : Event). IsAfterEnabled rules p.end between e (seen_at (record { shared = (rules.perform (chips i) p.shared).shared; chip = put chips i (rules.advance (rules.perform (chips i) p.shared).chip) }) (after_access rules p i (chips i)))) (sym (own-access access))
          (record {
            enabled = λ _. ap₂ (λ (w : Machine Chip Shared) (b : ℕ → Key). record { machine = w; bound = b; journal = p.journal ++ (rules.perform (chips i) p.shared).entry ∷ [] }) (sym (move-access rules machine i access)) raised-is;
            refused = λ no. absurd (no (inside, access, turn.early, above access));
          })

      samples : is_sample rules machine i ≡ true → Leaves (seen_at (record { shared = p.shared; chip = put chips i (rules.sample (chips i) (rules.pins p.shared i)) }) (record p { bounds = raised rules i (chips i) p.bounds }))
      samples sample =
          subst (λ (e : Event). IsAfterEnabled rules p.end between e (seen_at (record { shared = p.shared; chip = put chips i (rules.sample (chips i) (rules.pins p.shared i)) }) (record p { bounds = raised rules i (chips i) p.bounds }))) (sym (own-sample sample))
          (record {
            enabled = λ _. ap₂ (λ (w : Machine Chip Shared) (b : ℕ → Key). record { machine = w; bound = b; journal = p.journal }) (sym (move-sample rules machine i sample)) raised-is;
            refused = λ no. absurd (no (inside, sample, turn.early, looked));
          })

    -- where neither kind of event is in its turn all stays
    stays : (IsEnabled rules between p.end (Perform i) → ⊥) → (IsEnabled rules between p.end (Sample i) → ⊥)
        → (z : Seen Chip Shared) → z ≡ between → Leaves z
    stays no-access no-sample z same =
        by_test (is_sample rules machine i)
        (λ e. subst (λ (x : Event). IsAfterEnabled rules p.end between x z) (sym (own-sample e)) (record { enabled = λ en. absurd (no-sample en); refused = λ _. same }))
        (λ e. subst (λ (x : Event). IsAfterEnabled rules p.end between x z) (sym (own-access e)) (record { enabled = λ en. absurd (no-access en); refused = λ _. same }))

    ended : p.end ≤ (rules.next (chips i)).key.cycle → (z : Seen Chip Shared) → z ≡ between → Leaves z
    ended late = stays (λ en. let low = en.2 in omega arith) (λ en. let low = en.2 in omega arith)

    waits : (other : ℕ) (bound : Key) → IsBlocked rules p i (chips i) other bound → (z : Seen Chip Shared) → z ≡ between → Leaves z
    waits other bound b =
        stays
        (λ en. not-both bound (key_of rules machine i) b.below (ap (key_lt (key_of rules machine i)) (b.is ∙ sym (other-bound other b.looked.0)) ∙ en.3 other in-count b.looked.0))
        (λ en. not-both bound (key_of rules machine i) b.below (ap (key_lt (key_of rules machine i)) (b.is ∙ sym (other-bound other b.looked.0)) ∙ en.3 other in-count b.looked.0 (b.looked.1 en.1)))
      where
        in-count : other < rules.count
        in-count = let q = b.inside in omega (arith, count)

  module _ (i : ℕ) (p : PartsValue Shared) (h : HeldValue Chip Pins) (total : ℕ) (found : IsFound rules i p h total) (others : ℕ → Chip) where
    abbrev chips : ℕ → Chip
    chips = put others i (settled rules h.due h.chip)

    own : chips i ≡ h.chip
    own = put-same others i (settled rules h.due h.chip) ∙ ap (λ d. settled rules d h.chip) found.free

    abbrev start : Seen Chip Shared
    start = seen_at (record { shared = p.shared; chip = chips }) p

    abbrev middle : Seen Chip Shared
    middle = seen_at (record { shared = p.shared; chip = chips }) (record p { bounds = announced rules i (chips i) p.bounds })

    abbrev Ends : Seen Chip Shared → Type 0
    Ends z = IsAfterEnabled rules p.end middle (own_event rules middle i) z

    turn-of : (z : Seen Chip Shared) → Ends z → IsCoreTurn rules i p.end start z
    turn-of z ends = record {
      between = middle;
      announced = announces chips p i found.inside found.bound_count (ap (λ (c : Chip). (rules.next c).key.chip) own ∙ found.number) (found.bound_number i found.inside)
          (ap (λ (c : Chip). key_lt (rules.next c).key (bound_in p.bounds i)) own ∙ found.under);
      moved = ends;
    }

    -- the chip in its place, for the one that was there
    over : (x : Shared) (c : Chip) (q : PartsValue Shared) → Ends (seen_at (record { shared = x; chip = put chips i c }) q) → Ends (seen_at (record { shared = x; chip = put others i c }) q)
    over x c q = subst (λ (f : ℕ → Chip). Ends (seen_at (record { shared = x; chip = f }) q)) (put-twice others i (settled rules h.due h.chip) c)

    here : HasTurn rules p i h.chip → HasTurn rules p i (chips i)
    here turn = subst (λ (c : Chip). HasTurn rules p i c) (sym own) turn

    accessed-ends : HasTurn rules p i h.chip → (rules.next h.chip).sample ≡ false → Ends (core_with rules others i (after_access rules p i h.chip) (performed rules p h))
    accessed-ends turn access =
        over (rules.perform h.chip p.shared).shared (rules.advance (rules.perform h.chip p.shared).chip) (after_access rules p i h.chip)
        (subst (λ (c : Chip). Ends (seen_at (record { shared = (rules.perform c p.shared).shared; chip = put chips i (rules.advance (rules.perform c p.shared).chip) }) (after_access rules p i c))) own
        (performs chips p i found.inside found.bound_count (here turn) (ap (λ (c : Chip). (rules.next c).sample) own ∙ access)))

    sampled-ends : (end : Key) → HasTurn rules p i h.chip → (rules.next h.chip).sample ≡ true → Ends (core_with rules others i (record p { bounds = raised rules i h.chip p.bounds }) (sampled rules p i end h))
    sampled-ends end turn sample =
        over p.shared (rules.sample h.chip (rules.pins p.shared i)) (record p { bounds = raised rules i h.chip p.bounds })
        (subst (λ (c : Chip). Ends (seen_at (record { shared = p.shared; chip = put chips i (rules.sample c (rules.pins p.shared i)) }) (record p { bounds = raised rules i c p.bounds }))) own
        (samples chips p i found.inside found.bound_count (here turn) (ap (λ (c : Chip). (rules.next c).sample) own ∙ sample)))

    still : core_with rules others i (record p { bounds = announced rules i h.chip p.bounds }) h ≡ middle
    still = ap (λ (c : Chip). seen_at (record { shared = p.shared; chip = chips }) (record p { bounds = announced rules i c p.bounds })) (sym own)

    as-left : (q q2 : PartsValue Shared) (k k2 : HeldValue Chip Pins) → q ≡ q2 → k ≡ k2 → Ends (core_with rules others i q2 k2) → Ends (core_with rules others i q k)
    as-left q q2 k k2 eq ek ends =
        subst (λ (x : PartsValue Shared). Ends (core_with rules others i x k)) (sym eq) (subst (λ (x : HeldValue Chip Pins). Ends (core_with rules others i q2 x)) (sym ek) ends)

    ends-of : (answer : Turn) (q : PartsValue Shared) (k : HeldValue Chip Pins) → IsTurn rules i p h answer q k → Ends (core_with rules others i q k)
    ends-of Moved q k is =
        by_test (rules.next h.chip).sample
        (λ s. as-left q (record p { bounds = raised rules i h.chip p.bounds }) k (sampled rules p i ((is.sample s).1.0) h) ((is.sample s).0) ((is.sample s).1.2) (sampled-ends ((is.sample s).1.0) is.turn s))
        (λ a. as-left q (after_access rules p i h.chip) k (performed rules p h) ((is.access a).0) ((is.access a).1) (accessed-ends is.turn a))
    ends-of (Blocked other bound) q k is =
        as-left q (record p { bounds = announced rules i h.chip p.bounds }) k h is.1.parts is.1.held
        (waits chips p i found.inside found.bound_count other bound (subst (λ (c : Chip). IsBlocked rules p i c other bound) (sym own) is.0) (core_with rules others i (record p { bounds = announced rules i h.chip p.bounds }) h) still)
    ends-of Finished q k is =
        as-left q (record p { bounds = announced rules i h.chip p.bounds }) k h is.1.parts is.1.held
        (ended chips p i found.inside found.bound_count (subst (λ (c : Chip). p.end ≤ (rules.next c).key.cycle) (sym own) is.0) (core_with rules others i (record p { bounds = announced rules i h.chip p.bounds }) h) still)

    pub core-turn : (answer : Turn) (q : PartsValue Shared) (k : HeldValue Chip Pins) → IsTurn rules i p h answer q k → IsCoreTurn rules i p.end start (core_with rules others i q k)
    core-turn answer q k is = turn-of (core_with rules others i q k) (ends-of answer q k is)

  pub core-section : (i : ℕ) (l : LockedValue Shared) (hs : Places Chip Pins) (answer : Turn) (l2 : LockedValue Shared) (hs2 : Places Chip Pins) → IsSection rules i l hs answer l2 hs2 → IsCoreSection rules i l hs l2 hs2
  core-section i l hs answer l2 hs2 is others before after there now =
      subst (λ (k : HeldValue Chip Pins). IsCoreTurn rules i l.parts.end (core_with rules others i l.parts before) (core_with rules others i l2.parts k)) last
      (subst (λ (h : HeldValue Chip Pins). IsCoreTurn rules i l.parts.end (core_with rules others i l.parts h) (core_with rules others i l2.parts is.after)) first
      (core-turn i l.parts is.before _ is.found others answer l2.parts is.after is.turn))
    where
      first : is.before ≡ before
      first = same_Some is.before before (sym is.there ∙ there)

      last : is.after ≡ after
      last = same_Some is.after after (sym (get_or-set_same hs i (Some is.after) None (place-in hs i is.before is.there)) ∙ ap (λ xs. place xs i) (sym is.helds) ∙ now)
