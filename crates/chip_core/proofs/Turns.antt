-- Where each bound is its chip's key: the chip of least bound makes its event, and its next one is
-- announced.
use Rattle.std.proofs.Common.{◌≡◌, ℕ, ◌+◌, ◌<◌, ◌≤◌, true, false, cond, refl, sym, ◌∙◌, ap, ap₂, subst, arith, ◌⊎◌, inl, inr, List, [], ◌∷◌, ◌++◌, length, add-one, slice_index_or, slice_set}
use Rattle.std.proofs.lemmas.Bool.Decides.{nat_tests}
use Rattle.std.proofs.lemmas.List.{get_or_read}
use Rattle.md_word.specs.Clock.{cycle_limit}
use mathlib.Core.Path.{fun_ext}
use Rattle.md_word.specs.declared.event.Entry.{Entry}
use Rattle.md_word.specs.declared.event.Next.{Next}
use Rattle.md_word.specs.declared.key.Key.{Key}
use Rattle.md_word.specs.Keys.{key_lt}
use Rattle.chip_core.specs.declared.event.Event.{Event}
use Rattle.chip_core.specs.declared.event.Event.TheVariants.{Announce, Perform, Sample}
use Rattle.chip_core.specs.Chips.{Rules, Lawful}
use Rattle.chip_core.specs.Cores.{CoreValue, IsCore, ReachesEnd, machine_of, no_key, seen}
use Rattle.chip_core.specs.Events.{AreKeys, HasPlace, HasRoom, AwaitsAccess, IsBelowAll, IsEnabled, IsTidy, IsTurn, Leads, Reaches, Seen, after, left_bound, own_event, past_access}
use Rattle.chip_core.specs.Machines.{IsQuiet, IsRunTo, Machine, is_sample, key_of, least_below, move, mover, put}
use Rattle.chip_core.proofs.Keys.{rank, by_test, least-false, least-true, put-same, put-other, put-each, least-same, rank-key_lt}
use Rattle.chip_core.proofs.Stages.{chip-other, mover-in, mover-least, number-small, rank-apart}
use Rattle.chip_core.proofs.Keeps.{enabled-wider, stands-leads, tidy-after, tidy-leads, tidy_announce, tidy_move}
use Rattle.chip_core.proofs.Led.{place-room, room-after}
use Rattle.chip_core.proofs.Lists.{core-tidy, core_value, set-put, valid-core, stands-itself, tidy-core}
use Rattle.chip_core.proofs.Ends.{is_run_to}
use Rattle.chip_core.proofs.Works.{work, work-falls, work-leads}

-- two keys of which neither is below the other
same-key : (a b : Key) → key_lt a b ≡ false → key_lt b a ≡ false → a ≡ b
same-key a b p q =
    let cycle : a.cycle ≡ b.cycle = grind (arith, nat_tests) in
    let chip : a.chip ≡ b.chip = grind (arith, nat_tests) in
    ap₂ (λ c n. record { cycle = c; chip = n }) cycle chip

-- one more key
pub least-step : (key : ℕ → Key) (i least now : ℕ) → least ≡ least_below key i → ((key_lt (key i) (key least) ≡ true) × (now ≡ i)) ⊎ ((key_lt (key i) (key least) ≡ false) × (now ≡ least)) → now ≡ least_below key (i + 1)
least-step key i least now is (inl p) = p.1 ∙ sym (least-true key i (subst (λ n. key_lt (key i) (key n) ≡ true) is p.0)) ∙ ap (least_below key) (sym (add-one i))
least-step key i least now is (inr p) = p.1 ∙ is ∙ sym (least-false key i (subst (λ n. key_lt (key i) (key n) ≡ false) is p.0)) ∙ ap (least_below key) (sym (add-one i))

-- a place that is replaced twice
pub put-twice : {X : Type 0} (f : ℕ → X) (i : ℕ) (x y : X) → put (put f i x) i y ≡ put f i y
put-twice f i x y =
    fun_ext (λ k. put-each (λ n z. z ≡ put f i y n) (put f i x) i y k (λ _. sym (put-same f i y)) (λ ne. put-other f i x k ne ∙ sym (put-other f i y k ne)))

-- a place that holds the value already
pub put-back : {X : Type 0} (f : ℕ → X) (i : ℕ) (x : X) → f i ≡ x → put f i x ≡ f
put-back f i x e = fun_ext (λ k. put-each (λ n y. y ≡ f n) f i x k (λ _. sym e) (λ _. refl))

module _ {Chip Shared Pins : Type 0} (rules : Rules Chip Shared Pins) where
  -- what the code reads of a chip is the kind of its next event
  pub kind-read : (v u : CoreValue Chip Shared) (i : ℕ) → v ≡ u → i < length v.chips → (held : Chip) → held ≡ slice_index_or v.chips i held → (next : Next) → next ≡ rules.next held
      → next.sample ≡ is_sample rules (machine_of rules u) i
  kind-read v u i same h held read next is =
      subst (λ (x : CoreValue Chip Shared). next.sample ≡ is_sample rules (machine_of rules x) i) same
      (ap (λ (n : Next). n.sample) (is ∙ ap rules.next (get_or_read v.chips i held h read rules.blank)))

  -- what the code reads of the least bound
  pub late-found : (v u : CoreValue Chip Shared) → v ≡ u → length v.bounds ≡ rules.count → (bounds : List Key) → bounds ≡ v.bounds → (i : ℕ) → i ≡ least_below (λ k. slice_index_or bounds k no_key) (length bounds)
      → (bound : Key) → bound ≡ slice_index_or v.bounds i bound → i < length bounds → (t : ℕ) → t ≤ bound.cycle → t ≤ (slice_index_or u.bounds (least_below (seen rules u).bound rules.count) no_key).cycle
  late-found v u same count bounds is i at bound read inside t late =
      subst (λ (x : CoreValue Chip Shared). t ≤ (slice_index_or x.bounds (least_below (seen rules x).bound rules.count) no_key).cycle) same
      (subst (λ n. t ≤ (slice_index_or v.bounds (least_below (seen rules v).bound n) no_key).cycle) count
      (subst (λ n. t ≤ (slice_index_or v.bounds n no_key).cycle) (at ∙ ap (λ (bs : List Key). least_below (λ k. slice_index_or bs k no_key) (length bs)) is)
      (subst (λ (b : Key). t ≤ b.cycle) (get_or_read v.bounds i bound (subst (λ (bs : List Key). i < length bs) is inside) read no_key) late)))

  -- a bound that is set to the key of the chip that the event left
  pub turned-seen : (sh : Shared) (cs : List Chip) (bs : List Key) (j : List Entry) (r i : ℕ) (left k : Key) (s : Seen Chip Shared) → i < length bs
      → seen rules (core_value rules sh cs (slice_set bs i left) j r) ≡ s → k ≡ (rules.next (slice_index_or cs i rules.blank)).key
      → seen rules (core_value rules sh cs (slice_set bs i k) j r) ≡ after rules s (Announce i)
  turned-seen sh cs bs j r i left k s h is ek =
      ap (λ (b : ℕ → Key). record { machine = machine_of rules (core_value rules sh cs bs j r); bound = b; journal = j })
      (set-put bs i k no_key h ∙ ap (put (λ n. slice_index_or bs n no_key) i) ek
      ∙ sym (put-twice (λ n. slice_index_or bs n no_key) i left (rules.next (slice_index_or cs i rules.blank)).key)
      ∙ ap (λ (f : ℕ → Key). put f i (rules.next (slice_index_or cs i rules.blank)).key) (sym (set-put bs i left no_key h)))
      ∙ ap (λ (x : Seen Chip Shared). after rules x (Announce i)) is

  leads-append : (t : ℕ) (s : Seen Chip Shared) (es fs : List Event) (z w : Seen Chip Shared) → Leads rules t s es z → Leads rules t z fs w → Leads rules t s (es ++ fs) w
  leads-append t s [] fs z w l m = subst (λ (x : Seen Chip Shared). Leads rules t x fs w) l m
  leads-append t s (e ∷ es) fs z w l m = (l.0, leads-append t (after rules s e) es fs z w l.1 m)

  pub reaches-itself : (t : ℕ) (s : Seen Chip Shared) → Reaches rules t s s
  reaches-itself t s = ([], refl)

  pub reaches-on : (t : ℕ) (s z w : Seen Chip Shared) → Reaches rules t s z → Reaches rules t z w → Reaches rules t s w
  reaches-on t s z w r q = (r.0 ++ q.0, leads-append t s r.0 q.0 z w r.1 q.1)

  room-leads : (t room : ℕ) (s : Seen Chip Shared) → HasRoom rules t s room → (es : List Event) (z : Seen Chip Shared) → Leads rules t s es z → HasRoom rules t z room
  room-leads t room s has [] z l = subst (λ (x : Seen Chip Shared). HasRoom rules t x room) (sym l) has
  room-leads t room s has (e ∷ es) z l = room-leads t room (after rules s e) (room-after rules t room s (after rules s e) has e l.0 refl) es z l.1

  -- the event that a chip waits at moves its machine, and sets its bound alone
  pub own-machine : (s : Seen Chip Shared) (i : ℕ) → (after rules s (own_event rules s i)).machine ≡ move rules s.machine i
  own-machine s i =
      by_test (is_sample rules s.machine i)
      (λ e. ap (λ b. (after rules s (cond b (Sample i) (Perform i))).machine) e)
      (λ e. ap (λ b. (after rules s (cond b (Sample i) (Perform i))).machine) e)

  pub own-bound : (s : Seen Chip Shared) (i : ℕ) → (after rules s (own_event rules s i)).bound ≡ put s.bound i (left_bound rules s.machine i)
  own-bound s i =
      by_test (is_sample rules s.machine i)
      (λ e. ap (λ b. (after rules s (cond b (Sample i) (Perform i))).bound) e)
      (λ e. ap (λ b. (after rules s (cond b (Sample i) (Perform i))).bound) e)

  -- the bounds stay the keys
  pub keys-announced : (s : Seen Chip Shared) (i : ℕ) → AreKeys rules s i → AreKeys rules (after rules s (Announce i)) (i + 1)
  keys-announced s i keys j h =
      put-each (λ n b. b ≡ key_of rules s.machine n) s.bound i (key_of rules s.machine i) j (λ _. refl) (λ ne. keys j (omega arith))

  pub keys-turned : (s : Seen Chip Shared) (i : ℕ) → AreKeys rules s rules.count → AreKeys rules (after rules (after rules s (own_event rules s i)) (Announce i)) rules.count
  keys-turned s i keys j h =
      put-each (λ n b. b ≡ key_of rules moved.machine n) moved.bound i (key_of rules moved.machine i) j (λ _. refl)
      (λ ne. ap (λ (f : ℕ → Key). f j) (own-bound s i) ∙ put-other s.bound i (left_bound rules s.machine i) j ne ∙ keys j h
      ∙ sym (ap (λ (m : Machine Chip Shared). key_of rules m j) (own-machine s i) ∙ ap (λ (c : Chip). (rules.next c).key) (chip-other rules s.machine i j ne)))
    where
      moved : Seen Chip Shared
      moved = after rules s (own_event rules s i)

  -- and after the access that a chip waits at, if it waits at one
  pub keys-past : (s : Seen Chip Shared) (i : ℕ) → AreKeys rules s rules.count → AreKeys rules (past_access rules s i) rules.count
  keys-past s i keys =
      by_test (is_sample rules s.machine i)
      (λ e. subst (λ b. AreKeys rules (cond b s (after rules (after rules s (Perform i)) (Announce i))) rules.count) (sym e) keys)
      (λ e. subst (λ b. AreKeys rules (cond b s (after rules (after rules s (Perform i)) (Announce i))) rules.count) (sym e)
      (subst (λ b. AreKeys rules (after rules (after rules s (cond b (Sample i) (Perform i))) (Announce i)) rules.count) e (keys-turned s i keys)))

  -- the event whose turn it is may come
  pub turn-enabled : (t : ℕ) (s : Seen Chip Shared) (i : ℕ) → IsTurn rules t s i → IsEnabled rules s t (own_event rules s i)
  turn-enabled t s i turn =
      by_test (is_sample rules s.machine i)
      (λ e. subst (λ b. IsEnabled rules s t (cond b (Sample i) (Perform i))) (sym e) (turn.inside, e, turn.low, λ j q ne _. turn.first j q ne))
      (λ e. subst (λ b. IsEnabled rules s t (cond b (Sample i) (Perform i))) (sym e) (turn.inside, e, turn.low, turn.first))

  -- the least bound is the mover's
  pub least-mover : (s : Seen Chip Shared) → AreKeys rules s rules.count → least_below s.bound rules.count ≡ mover rules s.machine
  unfolding mover
  least-mover s keys = least-same s.bound (key_of rules s.machine) rules.count keys

  pub own-place : (t room : ℕ) (s : Seen Chip Shared) → HasRoom rules t s room → (i : ℕ) → IsEnabled rules s t (own_event rules s i) → HasPlace (length s.journal) room (own_event rules s i)
  own-place t room s has i en = place-room rules t room s has (own_event rules s i) en

module _ {Chip Shared Pins : Type 0} (rules : Rules Chip Shared Pins) (chip_ok : Chip → Type 0) (shared_ok : Shared → Type 0) (law : Lawful rules chip_ok shared_ok) where
  -- a bound that is set to its key was announced, or was there
  pub announced-reaches : (t : ℕ) (s : Seen Chip Shared) → IsTidy rules chip_ok shared_ok s → (i : ℕ) → i < rules.count → Reaches rules t s (after rules s (Announce i))
  announced-reaches t s tidy i h =
      by_test (key_lt (s.bound i) (key_of rules s.machine i))
      (λ e. (Announce i ∷ [], ((h, e), refl)))
      (λ e. (
        [],
        ap (λ (b : ℕ → Key). record { machine = s.machine; bound = b; journal = s.journal })
            (put-back s.bound i (key_of rules s.machine i) (same-key (s.bound i) (key_of rules s.machine i) e (tidy.under i h))),
      ))

  module _ (t : ℕ) (small : t ≤ cycle_limit) (s : Seen Chip Shared) (tidy : IsTidy rules chip_ok shared_ok s) where
    -- the chip of least bound comes before all others
    pub first-turn : AreKeys rules s rules.count → (i : ℕ) → i ≡ least_below s.bound rules.count → (s.bound i).cycle < t → IsTurn rules t s i
    first-turn keys i is low = record { inside = inside; low = cycle; first = above }
      where
        at : i ≡ mover rules s.machine
        at = is ∙ least-mover rules s keys

        inside : i < rules.count
        inside = subst (λ n. n < rules.count) (sym at) (mover-in rules chip_ok shared_ok law s.machine)

        cycle : (key_of rules s.machine i).cycle < t
        cycle = subst (λ (k : Key). k.cycle < t) (keys i inside) low

        above : IsBelowAll rules s i
        above j q ne =
            let least = subst (λ n. rank (key_of rules s.machine n) ≤ rank (key_of rules s.machine j)) (sym at)
            (mover-least rules chip_ok shared_ok law s.machine tidy.valid j q) in
            let apart = rank-apart rules chip_ok shared_ok law s.machine tidy.valid i j inside q (λ same. ne (sym same)) in
            subst (λ b. key_lt (key_of rules s.machine i) b ≡ true) (sym (keys j q))
            (rank-key_lt (key_of rules s.machine i) (key_of rules s.machine j) (number-small rules chip_ok shared_ok law s.machine tidy.valid i inside)
            (number-small rules chip_ok shared_ok law s.machine tidy.valid j q) (omega arith))

    pub first-quiet : AreKeys rules s rules.count → t ≤ (s.bound (least_below s.bound rules.count)).cycle → IsQuiet rules s.machine t
    first-quiet keys late i h =
        let inside = mover-in rules chip_ok shared_ok law s.machine in
        let low = subst (λ n. t ≤ (s.bound n).cycle) (least-mover rules s keys) late in
        let same = ap (λ (k : Key). k.cycle) (keys (mover rules s.machine) inside) in
        let least = mover-least rules chip_ok shared_ok law s.machine tidy.valid i h in
        let few = number-small rules chip_ok shared_ok law s.machine tidy.valid i h in
        omega arith

    -- a turn: the event, and the announcement
    module _ (i : ℕ) (h : i < rules.count) (en : IsEnabled rules s t (own_event rules s i)) where
      tidy-own : IsTidy rules chip_ok shared_ok (after rules s (own_event rules s i))
      tidy-own = tidy-after rules chip_ok shared_ok law s tidy (own_event rules s i) (enabled-wider rules chip_ok shared_ok law s t cycle_limit small (own_event rules s i) en)

      announced : Reaches rules t (after rules s (own_event rules s i)) (after rules (after rules s (own_event rules s i)) (Announce i))
      announced = announced-reaches t (after rules s (own_event rules s i)) tidy-own i h

      tidy-turned : IsTidy rules chip_ok shared_ok (after rules (after rules s (own_event rules s i)) (Announce i))
      tidy-turned = tidy-leads rules chip_ok shared_ok law t small (after rules s (own_event rules s i)) tidy-own announced.0 (after rules (after rules s (own_event rules s i)) (Announce i)) announced.1

      pub turn-reaches : Reaches rules t s (after rules (after rules s (own_event rules s i)) (Announce i))
      turn-reaches = (own_event rules s i ∷ announced.0, (en, announced.1))

      pub turn-less : work rules t (after rules (after rules s (own_event rules s i)) (Announce i)) < work rules t s
      turn-less =
          let fall = work-falls rules chip_ok shared_ok law t small s tidy (own_event rules s i) en in
          let rest = work-leads rules chip_ok shared_ok law t small (after rules s (own_event rules s i)) tidy-own announced.0 (after rules (after rules s (own_event rules s i)) (Announce i)) announced.1 in
          omega arith

      -- the access that the chip waits at, if it waits at one
      pub past-reaches : Reaches rules t s (past_access rules s i)
      past-reaches =
          by_test (is_sample rules s.machine i)
          (λ e. subst (λ b. Reaches rules t s (cond b s (after rules (after rules s (Perform i)) (Announce i)))) (sym e) (reaches-itself rules t s))
          (λ e. subst (λ b. Reaches rules t s (cond b s (after rules (after rules s (Perform i)) (Announce i)))) (sym e)
          (subst (λ b. Reaches rules t s (after rules (after rules s (cond b (Sample i) (Perform i))) (Announce i))) e turn-reaches))

      -- what leads on from there to where no sample of the chip may come leaves less to do
      pub past-less : (z : Seen Chip Shared) → Reaches rules t (past_access rules s i) z → (IsEnabled rules z t (Sample i) → ⊥) → work rules t z < work rules t s
      past-less z r ended =
          by_test (is_sample rules s.machine i)
          (λ e. (let on = subst (λ b. Reaches rules t (cond b s (after rules (after rules s (Perform i)) (Announce i))) z) e r in
          some on.0 on.1 (subst (λ b. IsEnabled rules s t (cond b (Sample i) (Perform i))) e en)))
          (λ e. (let on = subst (λ b. Reaches rules t (cond b s (after rules (after rules s (Perform i)) (Announce i))) z) e r in
          let less = subst (λ b. work rules t (after rules (after rules s (cond b (Sample i) (Perform i))) (Announce i)) < work rules t s) e turn-less in
          let tidy_on = subst (λ b. IsTidy rules chip_ok shared_ok (after rules (after rules s (cond b (Sample i) (Perform i))) (Announce i))) e tidy-turned in
          let rest = work-leads rules chip_ok shared_ok law t small (after rules (after rules s (Perform i)) (Announce i)) tidy_on on.0 z on.1 in
          omega arith))
        where
          some : (es : List Event) → Leads rules t s es z → IsEnabled rules s t (Sample i) → work rules t z < work rules t s
          some [] l due = absurd (ended (subst (λ (x : Seen Chip Shared). IsEnabled rules x t (Sample i)) (sym l) due))
          some (e ∷ es) l due = let falls = work-leads rules chip_ok shared_ok law t small s tidy (e ∷ es) z l in omega arith

  -- an access and an announcement leave a tidy core, whatever bounds the others have
  pub tidy-accessed : (s : Seen Chip Shared) → IsTidy rules chip_ok shared_ok s → (i : ℕ) → AwaitsAccess rules s i → IsTidy rules chip_ok shared_ok (after rules (after rules s (Perform i)) (Announce i))
  tidy-accessed s tidy i at =
      tidy_announce rules chip_ok shared_ok law (after rules s (Perform i))
      (tidy_move rules chip_ok shared_ok law s tidy i at.inside at.low (after rules s (Perform i)).journal) i at.inside

  pub core-turned : (v w : CoreValue Chip Shared) → IsCore rules chip_ok shared_ok v → (i : ℕ) → AwaitsAccess rules (seen rules v) i
      → length w.chips ≡ rules.count → length w.bounds ≡ rules.count → seen rules w ≡ after rules (after rules (seen rules v) (Perform i)) (Announce i) → IsCore rules chip_ok shared_ok w
  core-turned v w core i at cs bs is =
      core-tidy rules chip_ok shared_ok w cs bs
      (subst (λ (s : Seen Chip Shared). IsTidy rules chip_ok shared_ok s) (sym is) (tidy-accessed (seen rules v) (tidy-core rules chip_ok shared_ok v core) i at))

  -- what enabled events lead to keeps what the core stood for, and has room
  pub ends-there : (v w : CoreValue Chip Shared) → IsCore rules chip_ok shared_ok v → IsCore rules chip_ok shared_ok w → (t : ℕ) → t ≤ cycle_limit → Reaches rules t (seen rules v) (seen rules w)
      → IsQuiet rules (machine_of rules w) t → ReachesEnd rules chip_ok shared_ok t v w
  ends-there v w core core_w t small r quiet base base_core st =
      is_run_to rules chip_ok shared_ok law (seen rules base) (valid-core rules chip_ok shared_ok base base_core) t small (seen rules w) (tidy-core rules chip_ok shared_ok w core_w)
      (stands-leads rules chip_ok shared_ok law (seen rules base) (valid-core rules chip_ok shared_ok base base_core) t small (seen rules v) (tidy-core rules chip_ok shared_ok v core) r.0 (seen rules w) r.1 st)
      quiet

  pub first-there : (v w : CoreValue Chip Shared) → IsCore rules chip_ok shared_ok v → IsCore rules chip_ok shared_ok w → (t : ℕ) → t ≤ cycle_limit → Reaches rules t (seen rules v) (seen rules w)
      → IsQuiet rules (machine_of rules w) t → v.journal ≡ [] → IsRunTo rules (machine_of rules v) t (machine_of rules w) w.journal
  first-there v w core core_w t small r quiet empty =
      ends-there v w core core_w t small r quiet v core (stands-itself rules chip_ok shared_ok law v core t small empty)

  pub room-there : (t room : ℕ) (s z : Seen Chip Shared) → HasRoom rules t s room → Reaches rules t s z → HasRoom rules t z room
  room-there t room s z has r = room-leads rules t room s has r.0 z r.1
