-- From the lists of a core to the functions of the definitions: what the code writes is what the
-- events say.
use Rattle.std.proofs.Common.{◌≡◌, ◌≢◌, ℕ, ◌+◌, ◌<◌, ◌≤◌, true, false, sym, ◌∙◌, ap, ap₂, subst, arith, ◌⊎◌, inl, inr, List, [], ◌∷◌, ◌++◌, length, slice_index_or, slice_set, get_or-set_same, get_or-set_other}
use mathlib.Core.Path.{fun_ext}
use Rattle.std.proofs.lemmas.List.{get_or_read}
use Rattle.md_word.specs.Clock.{cycle_limit}
use Rattle.md_word.specs.declared.event.Entry.{Entry}
use Rattle.md_word.specs.declared.event.Next.{Next}
use Rattle.md_word.specs.declared.key.Key.{Key}
use Rattle.chip_core.specs.declared.event.Event.{Event}
use Rattle.chip_core.specs.declared.event.Event.TheVariants.{Announce, Perform, Sample}
use Rattle.chip_core.specs.Chips.{Rules, Lawful}
use Rattle.chip_core.specs.Cores.{CoreValue, IsCore, KeepsStanding, machine_of, no_key, seen}
use Rattle.chip_core.specs.Events.{Seen, IsEnabled, left_bound, after, Stands, IsTidy}
use Rattle.chip_core.specs.Machines.{Machine, put, is_sample, move, IsValid}
use Rattle.chip_core.proofs.Keys.{same_or, put-same, put-other}
use Rattle.chip_core.proofs.Stages.{move-sample, move-access}
use Rattle.chip_core.specs.Standing.{StandsFor}
use Rattle.chip_core.proofs.Keeps.{tidy-after, stands-after, stands_first}
use Rattle.chip_core.proofs.Works.{work, work-falls}

-- a write to a list replaces one place of its function
pub set-put : {X : Type 0} (xs : List X) (i : ℕ) (x d : X) → i < length xs → (λ (k : ℕ). slice_index_or (slice_set xs i x) k d) ≡ put (λ k. slice_index_or xs k d) i x
set-put xs i x d h = fun_ext (λ k. go k (same_or k i))
  where
    go : (k : ℕ) → (k ≡ i) ⊎ (k ≢ i) → slice_index_or (slice_set xs i x) k d ≡ put (λ n. slice_index_or xs n d) i x k
    go k (inl e) = subst (λ n. slice_index_or (slice_set xs i x) n d ≡ put (λ m. slice_index_or xs m d) i x n) (sym e) (get_or-set_same xs i x d h ∙ sym (put-same (λ n. slice_index_or xs n d) i x))
    go k (inr ne) = get_or-set_other xs i k x d ne ∙ sym (put-other (λ n. slice_index_or xs n d) i x k ne)

module _ {Chip Shared Pins : Type 0} (rules : Rules Chip Shared Pins) where
  abbrev pub core_value : Shared → List Chip → List Key → List Entry → ℕ → CoreValue Chip Shared
  core_value s cs bs j r = record { shared = s; chips = cs; bounds = bs; journal = j; room = r }

  pub announced-is : (s : Shared) (cs : List Chip) (bs : List Key) (j : List Entry) (r : ℕ) (i : ℕ) (k : Key) → i < length bs → k ≡ (rules.next (slice_index_or cs i rules.blank)).key
      → seen rules (core_value s cs (slice_set bs i k) j r) ≡ after rules (seen rules (core_value s cs bs j r)) (Announce i)
  announced-is s cs bs j r i k h e =
      ap (λ (b : ℕ → Key). record { machine = machine_of rules (core_value s cs bs j r); bound = b; journal = j })
      (set-put bs i k no_key h ∙ ap (put (λ n. slice_index_or bs n no_key) i) e)

  pub performed-is : (s : Shared) (cs : List Chip) (bs : List Key) (j : List Entry) (r : ℕ) (i : ℕ) (w : Shared) (c : Chip) (k : Key) (e : Entry) → i < length cs → i < length bs
      → is_sample rules (machine_of rules (core_value s cs bs j r)) i ≡ false
      → w ≡ (rules.perform (slice_index_or cs i rules.blank) s).shared → c ≡ rules.advance (rules.perform (slice_index_or cs i rules.blank) s).chip → e ≡ (rules.perform (slice_index_or cs i rules.blank) s).entry
      → k ≡ left_bound rules (machine_of rules (core_value s cs bs j r)) i
      → seen rules (core_value w (slice_set cs i c) (slice_set bs i k) (j ++ e ∷ []) r) ≡ after rules (seen rules (core_value s cs bs j r)) (Perform i)
  performed-is s cs bs j r i w c k e hc hb access ew ec ee ek =
      ap₂ (λ (m : Machine Chip Shared) (b : ℕ → Key). record { machine = m; bound = b; journal = j ++ e ∷ [] })
      (ap₂ (λ (x : Shared) (f : ℕ → Chip). record { shared = x; chip = f }) ew (set-put cs i c rules.blank hc ∙ ap (put (λ n. slice_index_or cs n rules.blank) i) ec)
      ∙ sym (move-access rules (machine_of rules (core_value s cs bs j r)) i access))
      (set-put bs i k no_key hb ∙ ap (put (λ n. slice_index_or bs n no_key) i) ek)
      ∙ ap (λ (x : Entry). record {
        machine = move rules (machine_of rules (core_value s cs bs j r)) i;
        bound = put (λ n. slice_index_or bs n no_key) i (left_bound rules (machine_of rules (core_value s cs bs j r)) i);
        journal = j ++ x ∷ [];
      }) ee

  pub sampled-is : (s : Shared) (cs : List Chip) (bs : List Key) (j : List Entry) (r : ℕ) (i : ℕ) (c : Chip) (k : Key) → i < length cs → i < length bs
      → is_sample rules (machine_of rules (core_value s cs bs j r)) i ≡ true
      → c ≡ rules.sample (slice_index_or cs i rules.blank) (rules.pins s i)
      → k ≡ left_bound rules (machine_of rules (core_value s cs bs j r)) i
      → seen rules (core_value s (slice_set cs i c) (slice_set bs i k) j r) ≡ after rules (seen rules (core_value s cs bs j r)) (Sample i)
  sampled-is s cs bs j r i c k hc hb sample ec ek =
      ap₂ (λ (m : Machine Chip Shared) (b : ℕ → Key). record { machine = m; bound = b; journal = j })
      (ap (λ (f : ℕ → Chip). record { shared = s; chip = f }) (set-put cs i c rules.blank hc ∙ ap (put (λ n. slice_index_or cs n rules.blank) i) ec)
      ∙ sym (move-sample rules (machine_of rules (core_value s cs bs j r)) i sample))
      (set-put bs i k no_key hb ∙ ap (put (λ n. slice_index_or bs n no_key) i) ek)

  -- an event of the fields is one of the value
  pub at-value : (v u w : CoreValue Chip Shared) (e : Event) → v ≡ u → seen rules w ≡ after rules (seen rules v) e → seen rules w ≡ after rules (seen rules u) e
  at-value v u w e same is = subst (λ (x : CoreValue Chip Shared). seen rules w ≡ after rules (seen rules x) e) same is

  pub enabled-at : (v u : CoreValue Chip Shared) (t : ℕ) (e : Event) → v ≡ u → IsEnabled rules (seen rules u) t e → IsEnabled rules (seen rules v) t e
  enabled-at v u t e same en = subst (λ (x : CoreValue Chip Shared). IsEnabled rules (seen rules x) t e) (sym same) en

  -- what the code does with the chip that it holds
  pub held-performed : (v : CoreValue Chip Shared) (i : ℕ) → is_sample rules (machine_of rules v) i ≡ false → i < length v.chips → i < length v.bounds
      → (held p c : Chip) (next : Next) (k : Key) (w : Shared) (e : Entry) (n : List Entry) (r : ℕ)
      → held ≡ slice_index_or v.chips i held → next ≡ rules.next held → w ≡ (rules.perform held v.shared).shared → p ≡ (rules.perform held v.shared).chip → e ≡ (rules.perform held v.shared).entry
      → c ≡ rules.advance p → k ≡ record { cycle = next.key.cycle + rules.gap i; chip = i } → n ≡ v.journal ++ e ∷ []
      → seen rules (core_value w (slice_set v.chips i c) (slice_set v.bounds i k) n r) ≡ after rules (seen rules v) (Perform i)
  held-performed v i access hc hb held p c next k w e n r read enext ew ep ee ec ek en_ =
      let same = get_or_read v.chips i held hc read rules.blank in
      ap (λ (x : List Entry). record {
        machine = machine_of rules (core_value w (slice_set v.chips i c) v.bounds n r);
        bound = λ (m : ℕ). slice_index_or (slice_set v.bounds i k) m no_key;
        journal = x;
      }) en_
      ∙ performed-is v.shared v.chips v.bounds v.journal v.room i w c k e hc hb access
      (ew ∙ ap (λ (x : Chip). (rules.perform x v.shared).shared) same)
      (ec ∙ ap rules.advance (ep ∙ ap (λ (x : Chip). (rules.perform x v.shared).chip) same))
      (ee ∙ ap (λ (x : Chip). (rules.perform x v.shared).entry) same)
      (ek ∙ ap (λ (x : Next). record { cycle = x.key.cycle + rules.gap i; chip = i }) (enext ∙ ap rules.next same))

  pub held-sampled : (v : CoreValue Chip Shared) (i : ℕ) (t : ℕ) → IsEnabled rules (seen rules v) t (Sample i) → i < length v.chips → i < length v.bounds
      → (held c : Chip) (next : Next) (k : Key) (pins : Pins) → held ≡ slice_index_or v.chips i held → next ≡ rules.next held → pins ≡ rules.pins v.shared i → c ≡ rules.sample held pins
      → k ≡ record { cycle = next.key.cycle + rules.gap i; chip = i }
      → seen rules (core_value v.shared (slice_set v.chips i c) (slice_set v.bounds i k) v.journal v.room) ≡ after rules (seen rules v) (Sample i)
  held-sampled v i t en hc hb held c next k pins read enext epins ec ek =
      let same = get_or_read v.chips i held hc read rules.blank in
      sampled-is v.shared v.chips v.bounds v.journal v.room i c k hc hb en.1
      (ec ∙ ap₂ rules.sample same epins)
      (ek ∙ ap (λ (x : Next). record { cycle = x.key.cycle + rules.gap i; chip = i }) (enext ∙ ap rules.next same))

module _ {Chip Shared Pins : Type 0} (rules : Rules Chip Shared Pins) (chip_ok : Chip → Type 0) (shared_ok : Shared → Type 0) where
  pub valid-core : (v : CoreValue Chip Shared) → IsCore rules chip_ok shared_ok v → IsValid rules chip_ok shared_ok (machine_of rules v)
  valid-core v core = record { shared = core.shared; chip = core.chip; number = core.shape.number }

  pub tidy-core : (v : CoreValue Chip Shared) → IsCore rules chip_ok shared_ok v → IsTidy rules chip_ok shared_ok (seen rules v)
  tidy-core v core = record { valid = valid-core v core; bound_number = core.shape.bound_number; under = core.shape.under }

  -- lists of the right lengths that are tidy are a core
  pub core-tidy : (v : CoreValue Chip Shared) → length v.chips ≡ rules.count → length v.bounds ≡ rules.count → IsTidy rules chip_ok shared_ok (seen rules v) → IsCore rules chip_ok shared_ok v
  core-tidy v cs bs tidy = record {
    shape = record { chip_count = cs; bound_count = bs; number = tidy.valid.number; bound_number = tidy.bound_number; under = tidy.under };
    shared = tidy.valid.shared;
    chip = tidy.valid.chip;
  }

  module _ (law : Lawful rules chip_ok shared_ok) where
    -- what an event left is a core
    pub core-after : (v w : CoreValue Chip Shared) → IsCore rules chip_ok shared_ok v → (e : Event) → IsEnabled rules (seen rules v) cycle_limit e → length w.chips ≡ rules.count → length w.bounds ≡ rules.count
        → seen rules w ≡ after rules (seen rules v) e → IsCore rules chip_ok shared_ok w
    core-after v w core e en cs bs is =
        core-tidy w cs bs (subst (λ (s : Seen Chip Shared). IsTidy rules chip_ok shared_ok s) (sym is) (tidy-after rules chip_ok shared_ok law (seen rules v) (tidy-core v core) e en))

    -- and it stands for what the core stood for
    pub stands-core : (v u w : CoreValue Chip Shared) → v ≡ u → IsCore rules chip_ok shared_ok v → (e : Event) → seen rules w ≡ after rules (seen rules v) e
        → (t : ℕ) → t ≤ cycle_limit → IsEnabled rules (seen rules u) t e → KeepsStanding rules chip_ok shared_ok t u w
    stands-core v u w same core e is t small en base base_core st =
        subst (λ (s : Seen Chip Shared). Stands rules (seen rules base) t s) (sym is)
        (stands-after rules chip_ok shared_ok law (seen rules base) (valid-core base base_core) t small (seen rules v) (tidy-core v core) e
        (subst (λ (x : CoreValue Chip Shared). IsEnabled rules (seen rules x) t e) (sym same) en) (subst (λ (x : CoreValue Chip Shared). Stands rules (seen rules base) t (seen rules x)) (sym same) st))

    -- a core with an empty journal stands for itself
    pub stands-itself : (v : CoreValue Chip Shared) → IsCore rules chip_ok shared_ok v → (t : ℕ) → t ≤ cycle_limit → v.journal ≡ [] → Stands rules (seen rules v) t (seen rules v)
    stands-itself v core t small empty = (
      λ i. 0,
      subst (λ (es : List Entry). StandsFor rules (machine_of rules v) (seen rules v).bound t (machine_of rules v) (seen rules v).bound es (λ i. 0)) (sym empty)
          (stands_first rules chip_ok shared_ok law (machine_of rules v) (valid-core v core) t small (seen rules v).bound),
    )

    -- an event leaves less work
    pub work-next : (v w : CoreValue Chip Shared) → IsCore rules chip_ok shared_ok v → (t : ℕ) → t ≤ cycle_limit → (e : Event) → IsEnabled rules (seen rules v) t e → seen rules w ≡ after rules (seen rules v) e
        → work rules t (seen rules w) < work rules t (seen rules v)
    work-next v w core t small e en is =
        let fall = work-falls rules chip_ok shared_ok law t small (seen rules v) (tidy-core v core) e en in
        let same = ap (work rules t) is in
        omega arith
