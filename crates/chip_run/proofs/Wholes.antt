-- What the whole turn of a held chip keeps.
use Rattle.std.proofs.Common.{◌≡◌, ℕ, ◌+◌, ◌-◌, ◌<◌, refl, sym, ◌∙◌, ap, subst, arith, Some, List, length, length-set, get_or-set_same, slice_set}
use Rattle.std.proofs.lemmas.List.{set-get_or, set-set}
use Rattle.chip_core.specs.Chips.{Rules, RunsTo, Lawful}
use Rattle.chip_core.specs.Cores.{CoreValue}
use Rattle.md_word.specs.declared.key.Key.{Key}
use Rattle.chip_run.specs.Held.{HeldValue, IsAhead, IsDueAt, IsFresh, IsHeld}
use Rattle.chip_run.specs.Locked.{IsLocked, count_of}
use Rattle.chip_run.specs.Parts.{PartsValue}
use Rattle.chip_run.specs.Sections.{IsLockedAt, KeepsLocked}
use Rattle.chip_run.specs.Steps.{HasLease, IsAccess, IsStep}
use Rattle.chip_run.specs.declared.stepped.Stepped.TheVariants.{Performed, Sampled}
use Rattle.chip_run.specs.declared.held.Due.{Due}
use Rattle.chip_run.specs.declared.held.Due.TheVariants.{Nothing, Advance}
use Rattle.chip_run.specs.declared.held.Due.TheVariants as Dues
use Rattle.chip_run.proofs.Keeping.{held-performed-at, held-sampled-at, kept-performed}
use Rattle.chip_run.proofs.Settling.{ahead-run, held-advanced, held-run, ran-rest}

module _ {Chip Shared Pins : Type 0} (rules : Rules Chip Shared Pins) (chip_ok : Chip → Type 0) (shared_ok : Shared → Type 0) where
  -- after it the parts are locked ones, with what was counted
  pub locked-next : (base : CoreValue Chip Shared) (t i : ℕ) (p : PartsValue Shared) (paid : ℕ) (q : PartsValue Shared) (later : ℕ) → IsLockedAt rules chip_ok shared_ok base t p i paid
      → KeepsLocked rules chip_ok shared_ok base t i p paid q later → IsLockedAt rules chip_ok shared_ok base t q i later
  locked-next base t i p paid q later at keeps = record {
    counts = slice_set at.counts i later;
    inside = (let n = length-set at.counts i later in let low = at.inside in omega arith);
    booked = get_or-set_same at.counts i later 0 at.inside;
    locked = keeps at.counts at.inside at.booked at.locked;
  }

  -- two of them, one after the other
  pub locked-twice : (base : CoreValue Chip Shared) (t i : ℕ) (p : PartsValue Shared) (paid : ℕ) (q : PartsValue Shared) (later : ℕ) (r : PartsValue Shared) (last : ℕ)
      → KeepsLocked rules chip_ok shared_ok base t i p paid q later → KeepsLocked rules chip_ok shared_ok base t i q later r last → KeepsLocked rules chip_ok shared_ok base t i p paid r last
  locked-twice base t i p paid q later r last first second counts inside booked lk =
      subst (λ cs. IsLocked rules chip_ok shared_ok base t r cs) (set-set counts i later last)
      (second (slice_set counts i later) (let n = length-set counts i later in omega arith) (get_or-set_same counts i later 0 inside) (first counts inside booked lk))

  -- where nothing is done
  pub locked-same : (base : CoreValue Chip Shared) (t i : ℕ) (p : PartsValue Shared) (paid : ℕ) → KeepsLocked rules chip_ok shared_ok base t i p paid p paid
  locked-same base t i p paid counts inside booked lk =
      subst (λ cs. IsLocked rules chip_ok shared_ok base t p cs) (sym (ap (slice_set counts i) (sym booked) ∙ set-get_or counts i 0)) lk

  -- a lease, whose pins were read after it
  pub sampled-by : (base : CoreValue Chip Shared) (t : ℕ) (p : PartsValue Shared) (i : ℕ) (c : Chip) (end : Key) (q : PartsValue Shared) (pins : Pins) → HasLease rules p i c (Some end) q → pins ≡ rules.pins q.shared i
      → IsStep rules p i c (Sampled pins end) q c
  sampled-by base t p i c end q pins has read = (has.0, has.1, read ∙ ap (λ (x : PartsValue Shared). rules.pins x.shared i) has.2, has.2, refl, has.3)

  -- of a chip of which no work is due, all moves are counted
  pub ahead-none : (base : CoreValue Chip Shared) (t i : ℕ) (due : Due Pins) → due ≡ Nothing → (booked : ℕ) → IsAhead rules chip_ok shared_ok base t i due booked 0
  ahead-none base t i due free booked = record {
    samples = λ j x low. absurd (omega arith);
    fresh = subst (λ (w : Due Pins). IsFresh w 0) (sym free) tt;
  }

  module _ (law : Lawful rules chip_ok shared_ok) (base : CoreValue Chip Shared) (t : ℕ) (p : PartsValue Shared) (i : ℕ) (h : HeldValue Chip Pins) (hd : IsHeld rules chip_ok shared_ok base t h) (free : h.due ≡ Nothing) (number : h.number ≡ i)
      (paid ahead : ℕ) (all : h.amount ≡ paid + ahead) (on : IsAhead rules chip_ok shared_ok base t h.number h.due paid ahead) where
    module _ (q : PartsValue Shared) (d : Chip) (is : IsAccess rules p i h.chip q d) (n : ℕ) (more : n ≡ h.amount + 1) where
      abbrev performed_chip : Chip
      performed_chip = (rules.perform h.chip p.shared).chip

      -- the locked part of the access alone
      apart : IsStep rules p i h.chip Performed q performed_chip
      apart = (is.0, is.1, is.2, refl)

      pub held-whole : IsLockedAt rules chip_ok shared_ok base t p i paid → IsHeld rules chip_ok shared_ok base t (record h { chip = d; amount = n })
      held-whole at =
          subst (λ (w : Due Pins). IsHeld rules chip_ok shared_ok base t (record h { chip = d; due = w; amount = n })) (sym free)
          (held-advanced rules chip_ok shared_ok base t (record h { chip = performed_chip; due = Advance; amount = n })
          (held-performed-at rules chip_ok shared_ok law base t p i h hd free number paid ahead all on at q performed_chip apart n more) refl d is.3)

      pub kept-whole : (counts : List ℕ) → i < length counts → count_of counts i ≡ paid → IsLocked rules chip_ok shared_ok base t p counts → IsLocked rules chip_ok shared_ok base t q (slice_set counts i n)
      kept-whole counts inside booked lk =
          kept-performed rules chip_ok shared_ok law base t p i h hd free number paid ahead all on counts inside booked lk q performed_chip apart n more

    module _ (at : IsLockedAt rules chip_ok shared_ok base t p i paid) (q : PartsValue Shared) (d : Chip) (pins : Pins) (end : Key) (is : IsStep rules p i h.chip (Sampled pins end) q d) where
      -- the held chip before its sample
      abbrev leased : HeldValue Chip Pins
      leased = record h { chip = d; due = Dues.Sample pins end; amount = h.amount + 1 }

      held-leased : IsHeld rules chip_ok shared_ok base t leased
      held-leased = held-sampled-at rules chip_ok shared_ok law base t p i h hd free number paid ahead all on at q d pins end is (h.amount + 1) refl

      pub due-here : IsDueAt rules chip_ok shared_ok (Dues.Sample pins end) d
      due-here = held-leased.due

      module _ (r : ℕ) (e : Chip) (ran : RunsTo rules r end pins d e) where
        pub held-ran : (amount : ℕ) → amount ≡ h.amount + 1 + (r - 1) → IsHeld rules chip_ok shared_ok base t (record h { chip = e; amount = amount })
        held-ran amount more =
            subst (λ (w : Due Pins). IsHeld rules chip_ok shared_ok base t (record h { chip = e; due = w; amount = amount })) (sym free)
            (held-run rules chip_ok shared_ok base t leased pins end held-leased refl (r - 1) e (ran-rest rules chip_ok shared_ok base t r end pins d e ran) amount more)

        pub ahead-ran : (booked : ℕ) → h.amount + 1 ≡ booked → IsAhead rules chip_ok shared_ok base t h.number h.due booked (r - 1)
        ahead-ran booked more =
            subst (λ (w : Due Pins). IsAhead rules chip_ok shared_ok base t h.number w booked (r - 1)) (sym free)
            (ahead-run rules chip_ok shared_ok base t leased pins end held-leased refl (r - 1) e (ran-rest rules chip_ok shared_ok base t r end pins d e ran) booked more)
