-- A chip that stays: its events one after the other, while the others make none.
use Rattle.std.proofs.Common.{◌≡◌, ◌≢◌, ℕ, zero, suc, ◌+◌, ◌-◌, ◌<◌, ◌≤◌, true, false, cond, refl, sym, ◌∙◌, ap, ap₂, subst, arith, Option, MatchOption, None, Some, List, [], ◌∷◌, ◌++◌, length, slice_index_or, slice_set, true≢false}
use Rattle.std.proofs.lemmas.Bool.Decides.{nat_tests}
use Rattle.md_word.specs.Clock.{cycle_limit}
use Rattle.md_word.specs.declared.event.Entry.{Entry}
use Rattle.md_word.specs.declared.key.Key.{Key}
use Rattle.md_word.specs.Keys.{key_lt}
use Rattle.chip_core.specs.declared.event.Event.TheVariants.{Announce, Perform, Sample}
use Rattle.chip_core.specs.Chips.{Lawful, LeavesPins, Rules}
use Rattle.chip_core.specs.Cores.{no_key, seen}
use Rattle.chip_core.specs.Events.{AreKeys, IsEnabled, IsTidy, IsTurn, Reaches, Seen, after, left_bound, own_event}
use Rattle.chip_core.specs.Limits.{all_moves_left}
use Rattle.chip_core.specs.Looks.{IsFreeTo}
use Rattle.chip_core.specs.Machines.{Machine, is_sample, key_of, put}
use Rattle.chip_core.specs.Staying.{KeepsPins, IsWoken, LeavesAll, Staying, StaysOn, StaysTo, TakesTurn, Wakes, past_own_access, past_sample, stayed, turned}
use Rattle.chip_core.proofs.Apart.{access-on}
use Rattle.chip_core.proofs.Fewer.{reached-le, reached-less}
use Rattle.chip_core.proofs.Going.{below-cycle}
use Rattle.chip_core.proofs.Keeps.{tidy_announce, tidy_move}
use Rattle.chip_core.proofs.Keys.{by_test, put-other, put-same}
use Rattle.chip_core.proofs.Lists.{core_value, set-put}
use Rattle.chip_core.proofs.Sampling.{first-on}
use Rattle.chip_core.proofs.Stages.{due}
use Rattle.chip_core.proofs.Turns.{keys-turned, own-bound, own-machine, put-back, put-twice, reaches-itself, reaches-on, turn-enabled, turn-reaches}
use Rattle.chip_core.proofs.Works.{all-fall}

-- no event lies past the last cycle below a key that is free of the others
pub free-limit : (t : ℕ) → t ≤ cycle_limit → (bound : ℕ → Key) (n i j : ℕ) (end : Key) → IsFreeTo t bound n i j end → key_lt (record { cycle = cycle_limit; chip = 0 }) end ≡ false
free-limit t small bound n i j end free =
    by_test (key_lt (record { cycle = cycle_limit; chip = 0 }) end)
    (λ e. absurd (let low = (free (record { cycle = cycle_limit; chip = 0 }) e).0 in omega arith)) (λ e. e)

none-below : (key : Key) → key_lt key (record { cycle = 0; chip = 0 }) ≡ false
none-below key = grind (arith, nat_tests)

module _ {Chip Shared Pins : Type 0} (rules : Rules Chip Shared Pins) where
  -- what a chip that stays has of a core, and the core with what it comes to
  abbrev pub staying_of : Seen Chip Shared → ℕ → Staying Chip Shared
  staying_of s i = record { chip = s.machine.chip i; shared = s.machine.shared; journal = s.journal }

  abbrev pub with_stay : Seen Chip Shared → ℕ → Staying Chip Shared → Seen Chip Shared
  with_stay s i a = record {
    machine = record { shared = a.shared; chip = put s.machine.chip i a.chip };
    bound = put s.bound i (rules.next a.chip).key;
    journal = a.journal;
  }

  kind-stay : (s : Seen Chip Shared) (i : ℕ) (a : Staying Chip Shared) → is_sample rules (with_stay s i a).machine i ≡ (rules.next a.chip).sample
  kind-stay s i a = ap (λ (c : Chip). (rules.next c).sample) (put-same s.machine.chip i a.chip)

  -- one event more
  stay-put : (s : Seen Chip Shared) (i : ℕ) (a b : Staying Chip Shared) → with_stay (with_stay s i a) i b ≡ with_stay s i b
  stay-put s i a b =
      ap₂ (λ (f : ℕ → Chip) (k : ℕ → Key). record { machine = record { shared = b.shared; chip = f }; bound = k; journal = b.journal })
      (put-twice s.machine.chip i a.chip b.chip) (put-twice s.bound i (rules.next a.chip).key (rules.next b.chip).key)

  sample-more : (s : Seen Chip Shared) (i : ℕ) (a : Staying Chip Shared) → (rules.next a.chip).sample ≡ true
      → after rules (after rules (with_stay s i a) (Sample i)) (Announce i) ≡ with_stay s i (past_sample rules i a)
  sample-more s i a is =
      first-on rules (with_stay s i a) i (kind-stay s i a ∙ is)
      ∙ ap (λ (c : Chip). with_stay (with_stay s i a) i (record { chip = rules.sample c (rules.pins a.shared i); shared = a.shared; journal = a.journal })) (put-same s.machine.chip i a.chip)
      ∙ stay-put s i a (past_sample rules i a)

  access-more : (s : Seen Chip Shared) (i : ℕ) (a : Staying Chip Shared) → (rules.next a.chip).sample ≡ false
      → after rules (after rules (with_stay s i a) (Perform i)) (Announce i) ≡ with_stay s i (past_own_access rules a)
  access-more s i a is =
      access-on rules (with_stay s i a) i (kind-stay s i a ∙ is)
      ∙ ap (λ (c : Chip). with_stay (with_stay s i a) i (past_own_access rules (record { chip = c; shared = a.shared; journal = a.journal }))) (put-same s.machine.chip i a.chip)
      ∙ stay-put s i a (past_own_access rules a)

  stay-more : (s : Seen Chip Shared) (i : ℕ) (a : Staying Chip Shared)
      → after rules (after rules (with_stay s i a) (own_event rules (with_stay s i a) i)) (Announce i) ≡ with_stay s i (cond (rules.next a.chip).sample (past_sample rules i a) (past_own_access rules a))
  stay-more s i a =
      ap (λ b. after rules (after rules (with_stay s i a) (cond b (Sample i) (Perform i))) (Announce i)) (kind-stay s i a)
      ∙ by_test (rules.next a.chip).sample
      (λ e. subst (λ b. after rules (after rules (with_stay s i a) (cond b (Sample i) (Perform i))) (Announce i) ≡ with_stay s i (cond b (past_sample rules i a) (past_own_access rules a))) (sym e) (sample-more s i a e))
      (λ e. subst (λ b. after rules (after rules (with_stay s i a) (cond b (Sample i) (Perform i))) (Announce i) ≡ with_stay s i (cond b (past_sample rules i a) (past_own_access rules a))) (sym e) (access-more s i a e))

  -- the chip that stays is that of the core
  module _ (s : Seen Chip Shared) (i : ℕ) (key : s.bound i ≡ key_of rules s.machine i) where
    turned-stayed : (n : ℕ) → turned rules n i s ≡ with_stay s i (stayed rules n i (staying_of s i))
    unfolding turned stayed
    turned-stayed zero =
        sym (ap₂ (λ (f : ℕ → Chip) (b : ℕ → Key). record { machine = record { shared = s.machine.shared; chip = f }; bound = b; journal = s.journal })
        (put-back s.machine.chip i (s.machine.chip i) refl) (put-back s.bound i (key_of rules s.machine i) key))
    turned-stayed (suc n) =
        ap (λ z. after rules (after rules z (own_event rules z i)) (Announce i)) (turned-stayed n)
        ∙ stay-more s i (stayed rules n i (staying_of s i))

    chip-turned : (n : ℕ) → (turned rules n i s).machine.chip i ≡ (stayed rules n i (staying_of s i)).chip
    chip-turned n = ap (λ (z : Seen Chip Shared). z.machine.chip i) (turned-stayed n) ∙ put-same s.machine.chip i (stayed rules n i (staying_of s i)).chip

    shared-turned : (n : ℕ) → (turned rules n i s).machine.shared ≡ (stayed rules n i (staying_of s i)).shared
    shared-turned n = ap (λ (z : Seen Chip Shared). z.machine.shared) (turned-stayed n)

  -- what events of one chip leave of the others
  pub bound-turned : (s : Seen Chip Shared) (i k : ℕ) → k ≢ i → (n : ℕ) → (turned rules n i s).bound k ≡ s.bound k
  unfolding turned
  bound-turned s i k ne zero = refl
  bound-turned s i k ne (suc n) =
      put-other (after rules (turned rules n i s) (own_event rules (turned rules n i s) i)).bound i (key_of rules (after rules (turned rules n i s) (own_event rules (turned rules n i s) i)).machine i) k ne
      ∙ ap (λ (f : ℕ → Key). f k) (own-bound rules (turned rules n i s) i)
      ∙ put-other (turned rules n i s).bound i (left_bound rules (turned rules n i s).machine i) k ne
      ∙ bound-turned s i k ne n

  pub keys-after : (s : Seen Chip Shared) (i : ℕ) → AreKeys rules s rules.count → (n : ℕ) → AreKeys rules (turned rules n i s) rules.count
  unfolding turned
  keys-after s i keys zero = keys
  keys-after s i keys (suc n) = keys-turned rules (turned rules n i s) i (keys-after s i keys n)

  -- one access alone
  pub first-stays : (i : ℕ) (end : Key) (c d : Chip) (s w : Shared) (es fs : List Entry) (entry : Entry) → (rules.next c).sample ≡ false → key_lt (rules.next c).key end ≡ true
      → d ≡ rules.advance (rules.perform c s).chip → w ≡ (rules.perform c s).shared → entry ≡ (rules.perform c s).entry → fs ≡ es ++ entry ∷ []
      → StaysTo rules 1 i end (record { chip = c; shared = s; journal = es }) (record { chip = d; shared = w; journal = fs })
  unfolding stayed
  first-stays i end c d s w es fs entry access below is_d is_w is_entry is_fs = record {
    some = omega arith;
    each = each;
    is = ap₂ (λ (x : Chip) (y : Shared). record { chip = x; shared = y; journal = fs }) is_d is_w
        ∙ ap (λ (l : List Entry). record { chip = rules.advance (rules.perform c s).chip; shared = (rules.perform c s).shared; journal = l }) (is_fs ∙ ap (λ e. es ++ e ∷ []) is_entry)
        ∙ ap (λ b. cond b (past_sample rules i a) (past_own_access rules a)) (sym access);
  }
    where
      a : Staying Chip Shared
      a = record { chip = c; shared = s; journal = es }

      each : (k : ℕ) → k < 1 → key_lt (rules.next (stayed rules k i a).chip).key end ≡ true
      each zero q = below
      each (suc k) q = absurd (omega arith)

  module _ (chip_ok : Chip → Type 0) (shared_ok : Shared → Type 0) (i j : ℕ) (c : Chip) (s : Shared) (es : List Entry) where
    pub first-leaves : (entry : Entry) → entry ≡ (rules.perform c s).entry → LeavesPins rules chip_ok shared_ok entry j → LeavesAll rules chip_ok shared_ok 1 i j (record { chip = c; shared = s; journal = es })
    unfolding stayed
    first-leaves entry is leaves zero q access = subst (λ e. LeavesPins rules chip_ok shared_ok e j) is leaves
    first-leaves entry is leaves (suc k) q access = absurd (omega arith)

    pub first-wakes : (key : Key) → key ≡ (rules.next c).key → Wakes rules chip_ok shared_ok 1 i j (record { chip = c; shared = s; journal = es }) key
    unfolding stayed
    first-wakes key is = record { before = λ k q. absurd (omega arith); last = is }

  pub keys-turn : (t i j : ℕ) (s z : Seen Chip Shared) (woke : Option Key) → AreKeys rules s rules.count → TakesTurn rules t i j s z woke → AreKeys rules z rules.count
  keys-turn t i j s z woke keys turn = subst (λ x. AreKeys rules x rules.count) (sym turn.stays.is) (keys-after s i keys turn.stays.events)

  -- no event, where a sample is due
  pub turn-none : (t i j : ℕ) (s : Seen Chip Shared) → is_sample rules s.machine i ≡ true → TakesTurn rules t i j s s None
  unfolding turned
  turn-none t i j s sample = record {
    end = record { cycle = 0; chip = 0 };
    free = λ key below. absurd (true≢false (sym below ∙ none-below key));
    stays = record {
      events = 0;
      some = λ access. absurd (true≢false (sym sample ∙ access));
      each = λ k q. absurd (omega arith);
      is = refl;
      pins = λ ne k q. absurd (omega arith);
    };
  }

  -- what the code writes
  pub stay-seen : (sh : Shared) (cs : List Chip) (bs : List Key) (j : List Entry) (r i : ℕ) (a : Staying Chip Shared) (k : Key) → i < length cs → i < length bs → k ≡ (rules.next a.chip).key
      → seen rules (core_value rules a.shared (slice_set cs i a.chip) (slice_set bs i k) a.journal r) ≡ with_stay (seen rules (core_value rules sh cs bs j r)) i a
  stay-seen sh cs bs j r i a k hc hb is =
      ap₂ (λ (f : ℕ → Chip) (b : ℕ → Key). record { machine = record { shared = a.shared; chip = f }; bound = b; journal = a.journal })
      (set-put cs i a.chip rules.blank hc) (set-put bs i k no_key hb ∙ ap (put (λ n. slice_index_or bs n no_key) i) is)

module _ {Chip Shared Pins : Type 0} (rules : Rules Chip Shared Pins) (chip_ok : Chip → Type 0) (shared_ok : Shared → Type 0) (law : Lawful rules chip_ok shared_ok) where
  tidy-own-event : (s : Seen Chip Shared) → IsTidy rules chip_ok shared_ok s → (i : ℕ) → i < rules.count → (key_of rules s.machine i).cycle < cycle_limit → IsTidy rules chip_ok shared_ok (after rules s (own_event rules s i))
  tidy-own-event s tidy i h low =
      by_test (is_sample rules s.machine i)
      (λ e. subst (λ b. IsTidy rules chip_ok shared_ok (after rules s (cond b (Sample i) (Perform i)))) (sym e) (tidy_move rules chip_ok shared_ok law s tidy i h low s.journal))
      (λ e. subst (λ b. IsTidy rules chip_ok shared_ok (after rules s (cond b (Sample i) (Perform i)))) (sym e) (tidy_move rules chip_ok shared_ok law s tidy i h low (after rules s (Perform i)).journal))

  module _ (s : Seen Chip Shared) (tidy : IsTidy rules chip_ok shared_ok s) (i : ℕ) (h : i < rules.count) where
    pub tidy-after-events : (n : ℕ) → ((k : ℕ) → k < n → (key_of rules (turned rules k i s).machine i).cycle < cycle_limit) → IsTidy rules chip_ok shared_ok (turned rules n i s)
    unfolding turned
    tidy-after-events zero low = tidy
    tidy-after-events (suc n) low =
        tidy_announce rules chip_ok shared_ok law (after rules (turned rules n i s) (own_event rules (turned rules n i s) i))
        (tidy-own-event (turned rules n i s) (tidy-after-events n (λ k q. low k (omega arith))) i h (low n (omega arith))) i h

    -- what the chip did by itself, in the core
    module _ (key : s.bound i ≡ key_of rules s.machine i) (end : Key) (small : key_lt (record { cycle = cycle_limit; chip = 0 }) end ≡ false) (n : ℕ) (b : Staying Chip Shared) (to : StaysTo rules n i end (staying_of rules s i) b) where
      each-turned : (k : ℕ) → k < n → key_lt (key_of rules (turned rules k i s).machine i) end ≡ true
      each-turned k q = subst (λ (c : Chip). key_lt (rules.next c).key end ≡ true) (sym (chip-turned rules s i key k)) (to.each k q)

      low-turned : (k : ℕ) → k < n → (key_of rules (turned rules k i s).machine i).cycle < cycle_limit
      low-turned k q = below-cycle (key_of rules (turned rules k i s).machine i) end (each-turned k q) small

      pub tidy-stayed : IsTidy rules chip_ok shared_ok (with_stay rules s i b)
      tidy-stayed = subst (λ z. IsTidy rules chip_ok shared_ok z) (turned-stayed rules s i key n ∙ ap (λ a. with_stay rules s i a) (sym to.is)) (tidy-after-events n low-turned)

      keeps : (j : ℕ) → j ≢ i → (m : ℕ) → m ≤ n → LeavesAll rules chip_ok shared_ok m i j (staying_of rules s i) → KeepsPins rules m i j s
      unfolding stayed
      keeps j ne m le leaves k q =
          ap (λ x. rules.pins x j) (shared-turned rules s i key (suc k))
          ∙ by_test (rules.next (stayed rules k i (staying_of rules s i)).chip).sample
          (λ e. ap (λ t. rules.pins (cond t (past_sample rules i (stayed rules k i (staying_of rules s i))) (past_own_access rules (stayed rules k i (staying_of rules s i)))).shared j) e)
          (λ e. ap (λ t. rules.pins (cond t (past_sample rules i (stayed rules k i (staying_of rules s i))) (past_own_access rules (stayed rules k i (staying_of rules s i)))).shared j) e ∙ left e)
          ∙ ap (λ x. rules.pins x j) (sym (shared-turned rules s i key k))
        where
          a : Staying Chip Shared
          a = stayed rules k i (staying_of rules s i)

          tidy-k : IsTidy rules chip_ok shared_ok (turned rules k i s)
          tidy-k = tidy-after-events k (λ l r. low-turned l (omega arith))

          kind : (rules.next a.chip).sample ≡ false → is_sample rules (turned rules k i s).machine i ≡ false
          kind e = ap (λ (c : Chip). (rules.next c).sample) (chip-turned rules s i key k) ∙ e

          left : (rules.next a.chip).sample ≡ false → rules.pins (rules.perform a.chip a.shared).shared j ≡ rules.pins a.shared j
          left e =
              subst (λ (x : Staying Chip Shared). rules.pins (rules.perform x.chip x.shared).shared j ≡ rules.pins x.shared j)
              (ap₂ (λ (c : Chip) (w : Shared). record { chip = c; shared = w; journal = a.journal }) (chip-turned rules s i key k) (shared-turned rules s i key k))
              (leaves k q e ((turned rules k i s).machine.chip i) (turned rules k i s).machine.shared i
              (due rules chip_ok shared_ok law (turned rules k i s).machine tidy-k.valid i h (low-turned k (omega arith)) false (kind e)) (λ same. ne (sym same))
              (ap₂ (λ (c : Chip) (w : Shared). (rules.perform c w).entry) (chip-turned rules s i key k) (shared-turned rules s i key k)))

      pub stays-on : (j : ℕ) (z : Seen Chip Shared) (woke : Option Key) → z ≡ with_stay rules s i b
          → (j ≢ i → MatchOption woke (LeavesAll rules chip_ok shared_ok n i j (staying_of rules s i)) (Wakes rules chip_ok shared_ok n i j (staying_of rules s i))) → StaysOn rules end i j s z woke
      stays-on j z woke is pins = record {
        events = n;
        some = λ _. to.some;
        each = each-turned;
        is = is ∙ ap (λ a. with_stay rules s i a) to.is ∙ sym (turned-stayed rules s i key n);
        pins = λ ne. go woke ne (pins ne);
      }
        where
          go : (w : Option Key) → j ≢ i → MatchOption w (LeavesAll rules chip_ok shared_ok n i j (staying_of rules s i)) (Wakes rules chip_ok shared_ok n i j (staying_of rules s i))
              → MatchOption w (KeepsPins rules n i j s) (IsWoken rules n i j s)
          go None ne leaves = keeps j ne n (omega arith) leaves
          go (Some k) ne wakes = record {
            some = to.some;
            before = keeps j ne (n - 1) (omega arith) wakes.before;
            last = wakes.last ∙ ap (λ (c : Chip). (rules.next c).key) (sym (chip-turned rules s i key (n - 1)));
          }

    -- events before a key that nothing of the others lies before, but of chip j
    module _ (t : ℕ) (small : t ≤ cycle_limit) (j : ℕ) (z : Seen Chip Shared) (woke : Option Key) (turn : TakesTurn rules t i j s z woke) where
      pub low-free : (k : ℕ) → k < turn.stays.events → (key_of rules (turned rules k i s).machine i).cycle < t
      low-free k q = (turn.free (key_of rules (turned rules k i s).machine i) (turn.stays.each k q)).0

      pub tidy-turn : (n : ℕ) → n ≤ turn.stays.events → IsTidy rules chip_ok shared_ok (turned rules n i s)
      tidy-turn n le = tidy-after-events n (λ k q. let low = low-free k (omega arith) in omega arith)

      pub free-bound : (n : ℕ) → n < turn.stays.events → (k : ℕ) → k < rules.count → k ≢ i → k ≢ j → key_lt (key_of rules (turned rules n i s).machine i) ((turned rules n i s).bound k) ≡ true
      free-bound n q k h_k ne nj = subst (λ b. key_lt (key_of rules (turned rules n i s).machine i) b ≡ true) (sym (bound-turned rules s i k ne n)) ((turn.free (key_of rules (turned rules n i s).machine i) (turn.stays.each n q)).1 k h_k ne nj)

      -- each takes of the moves that are left
      fall : (n : ℕ) → n ≤ turn.stays.events → all_moves_left rules t (turned rules n i s).machine + n ≤ all_moves_left rules t s.machine
      unfolding turned
      fall zero le = omega arith
      fall (suc n) le =
          let before = fall n (omega arith) in
          let one = all-fall rules chip_ok shared_ok law t small (turned rules n i s) (tidy-turn n (omega arith)) i h (low-free n (omega arith)) in
          let moved = ap (λ (m : Machine Chip Shared). all_moves_left rules t m) (own-machine rules (turned rules n i s) i) in
          omega arith

      -- with samples after them, fewer moves are left
      pub turn-fewer : (w : Seen Chip Shared) → AreKeys rules s rules.count → AreKeys rules w rules.count → Reaches rules t z w → (is_sample rules s.machine i ≡ true → IsEnabled rules s t (Sample i)) → (IsEnabled rules w t (Sample i) → ⊥)
          → all_moves_left rules t w.machine < all_moves_left rules t s.machine
      unfolding turned
      turn-fewer w keys keys-w r may ended = go turn.stays.events refl
        where
          go : (n : ℕ) → n ≡ turn.stays.events → all_moves_left rules t w.machine < all_moves_left rules t s.machine
          go zero e =
              reached-less rules chip_ok shared_ok law t small s w tidy keys keys-w
              (subst (λ x. Reaches rules t x w) (turn.stays.is ∙ ap (λ m. turned rules m i s) (sym e)) r)
              (λ same. ended (subst (λ x. IsEnabled rules x t (Sample i)) (sym same) (may sample)))
            where
              sample : is_sample rules s.machine i ≡ true
              sample = by_test (is_sample rules s.machine i) (λ b. b) (λ b. absurd (let some = turn.stays.some b in omega arith))
          go (suc n) e =
              let le : turn.stays.events ≤ turn.stays.events = omega arith in
              let on = reached-le rules chip_ok shared_ok law t small (turned rules turn.stays.events i s) w (tidy-turn turn.stays.events le) (keys-after rules s i keys turn.stays.events) keys-w
              (subst (λ x. Reaches rules t x w) turn.stays.is r) in
              let less = fall turn.stays.events le in
              omega arith

    -- where none sleeps, enabled events lead there
    pub turn-led : (t : ℕ) → t ≤ cycle_limit → (z : Seen Chip Shared) (woke : Option Key) → TakesTurn rules t i i s z woke → Reaches rules t s z
    unfolding turned
    turn-led t small z woke turn = subst (λ x. Reaches rules t s x) (sym turn.stays.is) (go turn.stays.events (omega arith))
      where
        at : (n : ℕ) → n < turn.stays.events → IsTurn rules t (turned rules n i s) i
        at n q = record {
          inside = h;
          low = low-free t small i z woke turn n q;
          first = λ k h_k ne. free-bound t small i z woke turn n q k h_k ne ne;
        }

        go : (n : ℕ) → n ≤ turn.stays.events → Reaches rules t s (turned rules n i s)
        go zero le = reaches-itself rules t s
        go (suc n) le =
            reaches-on rules t s (turned rules n i s) (turned rules (suc n) i s) (go n (omega arith))
            (turn-reaches rules chip_ok shared_ok law t small (turned rules n i s) (tidy-turn t small i z woke turn n (omega arith)) i h (turn-enabled rules t (turned rules n i s) i (at n (omega arith))))
