-- The event that a look at all chips finds is enabled, and none is found only where no key lies
-- below the end.
use Rattle.std.proofs.Common.{◌≡◌, ℕ, ◌<◌, ◌≤◌, true, false, cond, refl, sym, ◌∙◌, ap, ap₂, subst, arith, ◌⊎◌, inl, inr, List, length, slice_index_or, Option, Some, None}
use Rattle.md_word.specs.Clock.{cycle_limit}
use Rattle.md_word.specs.declared.event.Next.{Next}
use Rattle.md_word.specs.declared.key.Key.{Key}
use Rattle.chip_core.specs.declared.event.Event.{Event}
use Rattle.chip_core.specs.declared.event.Event.TheVariants.{Announce, Perform, Sample}
use Rattle.chip_core.specs.Chips.{Rules, Lawful}
use Rattle.chip_core.specs.Cores.{CoreValue, IsCore, ReachesEnd, machine_of, no_key, seen}
use Rattle.chip_core.specs.Events.{IsBelowAll, IsEnabled, IsChosen, NoneLags}
use Rattle.chip_core.specs.Looks.{least_lagging}
use Rattle.chip_core.specs.Machines.{least_below, key_of, is_sample, mover, IsQuiet, IsShort}
use Rattle.chip_core.proofs.Keys.{by_test, not_lt-rank, rank-key_lt}
use Rattle.chip_core.proofs.Stages.{number-small, mover-in, mover-least, rank-apart}
use Rattle.chip_core.proofs.Looking.{none-lags, one-lags}
use Rattle.chip_core.proofs.Ends.{is_run_to}
use Rattle.chip_core.proofs.Lists.{valid-core, tidy-core}

module _ {Chip Shared Pins : Type 0} (rules : Rules Chip Shared Pins) (chip_ok : Chip → Type 0) (shared_ok : Shared → Type 0) where
  -- what the look found, in the words of the machine
  pub least-found : (v : CoreValue Chip Shared) → IsCore rules chip_ok shared_ok v → (chips : List Chip) → chips ≡ v.chips → (least : Next)
      → least ≡ rules.next (slice_index_or chips (least_below (λ i. (rules.next (slice_index_or chips i rules.blank)).key) (length chips)) rules.blank)
      → least ≡ rules.next ((machine_of rules v).chip (mover rules (machine_of rules v)))
  unfolding mover
  least-found v core chips same least is =
      is
      ∙ ap (λ (cs : List Chip). rules.next (slice_index_or cs (least_below (λ i. (rules.next (slice_index_or cs i rules.blank)).key) (length cs)) rules.blank)) same
      ∙ ap (λ n. rules.next (slice_index_or v.chips (least_below (λ i. (rules.next (slice_index_or v.chips i rules.blank)).key) n) rules.blank)) core.shape.chip_count

  pub lagging-found : (v : CoreValue Chip Shared) → IsCore rules chip_ok shared_ok v → (chips : List Chip) → chips ≡ v.chips → (bounds : List Key) → bounds ≡ v.bounds → (lagging : Option ℕ)
      → lagging ≡ least_lagging (λ i. slice_index_or bounds i no_key) (λ i. (rules.next (slice_index_or chips i rules.blank)).key) (length chips)
      → lagging ≡ least_lagging (seen rules v).bound (key_of rules (machine_of rules v)) rules.count
  lagging-found v core chips same bounds same_b lagging is =
      is
      ∙ ap₂ (λ (cs : List Chip) (bs : List Key). least_lagging (λ i. slice_index_or bs i no_key) (λ i. (rules.next (slice_index_or cs i rules.blank)).key) (length cs)) same same_b
      ∙ ap (least_lagging (seen rules v).bound (key_of rules (machine_of rules v))) core.shape.chip_count

  module _ (law : Lawful rules chip_ok shared_ok) (v : CoreValue Chip Shared) (core : IsCore rules chip_ok shared_ok v) (t : ℕ) (least : Next) (is : least ≡ rules.next ((machine_of rules v).chip (mover rules (machine_of rules v)))) where
    -- none is found
    pub quiet-found : t ≤ least.key.cycle → IsQuiet rules (machine_of rules v) t
    quiet-found late i h =
        let valid = valid-core rules chip_ok shared_ok v core in
        let order = mover-least rules chip_ok shared_ok law (machine_of rules v) valid i h in
        let chip = number-small rules chip_ok shared_ok law (machine_of rules v) valid i h in
        let same = ap (λ (n : Next). n.key.cycle) is in
        omega arith

    pub reached : t ≤ least.key.cycle → t ≤ cycle_limit → ReachesEnd rules chip_ok shared_ok t v v
    reached late small base base_core st =
        is_run_to rules chip_ok shared_ok law (seen rules base) (valid-core rules chip_ok shared_ok base base_core) t small (seen rules v) (tidy-core rules chip_ok shared_ok v core) st (quiet-found late)

    pub short-found : least.key.cycle < t → IsShort rules (machine_of rules v) t
    short-found low = (mover rules (machine_of rules v), mover-in rules chip_ok shared_ok law (machine_of rules v), (let same = ap (λ (n : Next). n.key.cycle) is in omega arith))

    -- an announcement is found
    pub lagging-enabled : least.key.cycle < t → (i : ℕ) → least_lagging (seen rules v).bound (key_of rules (machine_of rules v)) rules.count ≡ Some i
        → IsShort rules (machine_of rules v) t × IsEnabled rules (seen rules v) t (Announce i)
    lagging-enabled low i found =
        let one = one-lags (seen rules v).bound (key_of rules (machine_of rules v)) rules.count i found in
        (short-found low, (one.inside, one.lags))

    pub lagging-chosen : (i : ℕ) → least_lagging (seen rules v).bound (key_of rules (machine_of rules v)) rules.count ≡ Some i → IsChosen rules (seen rules v) (Announce i)
    lagging-chosen i found = (one-lags (seen rules v).bound (key_of rules (machine_of rules v)) rules.count i found).first

    -- a move is found: the chip of least key is below all bounds
    below-all : NoneLags rules (seen rules v) rules.count → IsBelowAll rules (seen rules v) (mover rules (machine_of rules v))
    below-all none j h ne =
        let tidy = tidy-core rules chip_ok shared_ok v core in
        let who = mover-in rules chip_ok shared_ok law (machine_of rules v) in
        let small = number-small rules chip_ok shared_ok law (machine_of rules v) tidy.valid j h in
        let few = law.few in
        let number = tidy.bound_number j h in
        let bound_small : ((seen rules v).bound j).chip < 8 = omega arith in
        let least_key = mover-least rules chip_ok shared_ok law (machine_of rules v) tidy.valid j h in
        let apart = rank-apart rules chip_ok shared_ok law (machine_of rules v) tidy.valid (mover rules (machine_of rules v)) j who h (λ same. ne (sym same)) in
        let under = not_lt-rank ((seen rules v).bound j) (key_of rules (machine_of rules v) j) bound_small small (none j h) in
        rank-key_lt (key_of rules (machine_of rules v) (mover rules (machine_of rules v))) ((seen rules v).bound j)
        (number-small rules chip_ok shared_ok law (machine_of rules v) tidy.valid (mover rules (machine_of rules v)) who) bound_small (omega arith)

    -- the event of the chip of least key
    event-found : (e : Event) → e ≡ cond least.sample (Sample least.key.chip) (Perform least.key.chip)
        → ((is_sample rules (machine_of rules v) (mover rules (machine_of rules v)) ≡ true) × (e ≡ Sample (mover rules (machine_of rules v))))
        ⊎ ((is_sample rules (machine_of rules v) (mover rules (machine_of rules v)) ≡ false) × (e ≡ Perform (mover rules (machine_of rules v))))
    event-found e at =
        let number = ap (λ (n : Next). n.key.chip) is ∙ core.shape.number (mover rules (machine_of rules v)) (mover-in rules chip_ok shared_ok law (machine_of rules v)) in
        by_test (is_sample rules (machine_of rules v) (mover rules (machine_of rules v)))
        (λ b. inl (b, at ∙ ap₂ (λ x n. cond x (Sample n) (Perform n)) (ap (λ (n : Next). n.sample) is ∙ b) number))
        (λ b. inr (b, at ∙ ap₂ (λ x n. cond x (Sample n) (Perform n)) (ap (λ (n : Next). n.sample) is ∙ b) number))

    pub move-enabled : least.key.cycle < t → least_lagging (seen rules v).bound (key_of rules (machine_of rules v)) rules.count ≡ None
        → (e : Event) → e ≡ cond least.sample (Sample least.key.chip) (Perform least.key.chip) → IsShort rules (machine_of rules v) t × IsEnabled rules (seen rules v) t e
    move-enabled low found e at = (short-found low, go (event-found e at))
      where
        above : IsBelowAll rules (seen rules v) (mover rules (machine_of rules v))
        above = below-all (none-lags (seen rules v).bound (key_of rules (machine_of rules v)) rules.count found)

        cycle : (key_of rules (machine_of rules v) (mover rules (machine_of rules v))).cycle < t
        cycle = let same = ap (λ (n : Next). n.key.cycle) is in omega arith

        go : ((is_sample rules (machine_of rules v) (mover rules (machine_of rules v)) ≡ true) × (e ≡ Sample (mover rules (machine_of rules v))))
            ⊎ ((is_sample rules (machine_of rules v) (mover rules (machine_of rules v)) ≡ false) × (e ≡ Perform (mover rules (machine_of rules v)))) → IsEnabled rules (seen rules v) t e
        go (inl p) = subst (λ (x : Event). IsEnabled rules (seen rules v) t x) (sym p.1) (mover-in rules chip_ok shared_ok law (machine_of rules v), p.0, cycle, λ j h ne _. above j h ne)
        go (inr p) = subst (λ (x : Event). IsEnabled rules (seen rules v) t x) (sym p.1) (mover-in rules chip_ok shared_ok law (machine_of rules v), p.0, cycle, above)

    pub move-chosen : least_lagging (seen rules v).bound (key_of rules (machine_of rules v)) rules.count ≡ None
        → (e : Event) → e ≡ cond least.sample (Sample least.key.chip) (Perform least.key.chip) → IsChosen rules (seen rules v) e
    move-chosen found e at = go (event-found e at)
      where
        none : NoneLags rules (seen rules v) rules.count
        none = none-lags (seen rules v).bound (key_of rules (machine_of rules v)) rules.count found

        go : ((is_sample rules (machine_of rules v) (mover rules (machine_of rules v)) ≡ true) × (e ≡ Sample (mover rules (machine_of rules v))))
            ⊎ ((is_sample rules (machine_of rules v) (mover rules (machine_of rules v)) ≡ false) × (e ≡ Perform (mover rules (machine_of rules v)))) → IsChosen rules (seen rules v) e
        go (inl p) = subst (λ (x : Event). IsChosen rules (seen rules v) x) (sym p.1) (none, refl)
        go (inr p) = subst (λ (x : Event). IsChosen rules (seen rules v) x) (sym p.1) (none, refl)
