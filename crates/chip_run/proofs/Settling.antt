-- What the due work leaves of a held chip.
use Rattle.std.proofs.Common.{◌≡◌, ℕ, suc, ◌+◌, ◌-◌, refl, sym, ◌∙◌, ap, subst, arith}
use Rattle.md_word.specs.declared.key.Key.{Key}
use Rattle.chip_core.specs.Chips.{Rules, RunsTo, sampled}
use Rattle.chip_core.specs.Cores.{CoreValue, machine_of}
use Rattle.chip_core.specs.Machines.{OnPath}
use Rattle.chip_run.specs.Held.{HeldValue, IsAhead, IsDueAt, IsFresh, IsHeld, IsLease, IsLeased, settled}
use Rattle.chip_run.specs.Rounds.{Settles}
use Rattle.chip_run.proofs.Gathers.{on-path-once}
use Rattle.chip_run.specs.declared.held.Due.{Due}
use Rattle.chip_run.specs.declared.held.Due.TheVariants.{Nothing, Advance, Sample}

module _ {Chip Shared Pins : Type 0} (rules : Rules Chip Shared Pins) (chip_ok : Chip → Type 0) (shared_ok : Shared → Type 0) (base : CoreValue Chip Shared) (t : ℕ) where
  pub held-advanced : (h : HeldValue Chip Pins) → IsHeld rules chip_ok shared_ok base t h → h.due ≡ Advance → (d : Chip) → d ≡ rules.advance h.chip → IsHeld rules chip_ok shared_ok base t (record h { chip = d; due = Nothing })
  held-advanced h hd due d is = record {
    inside = hd.inside;
    path = subst (λ (x : Chip). OnPath rules (machine_of rules base) t h.number h.amount x) (sym is) (subst (λ (w : Due Pins). OnPath rules (machine_of rules base) t h.number h.amount (settled rules w h.chip)) due hd.path);
    due = tt;
    lease = tt;
  }

  -- no sample is counted late beside an access
  pub fresh-advanced : (i : ℕ) (due : Due Pins) (booked ahead : ℕ) → IsAhead rules chip_ok shared_ok base t i due booked ahead → IsAhead rules chip_ok shared_ok base t i Nothing booked ahead
  fresh-advanced i due booked ahead on = record { samples = on.samples; fresh = tt }

  module _ (h : HeldValue Chip Pins) (pins : Pins) (end : Key) (hd : IsHeld rules chip_ok shared_ok base t h) (due : h.due ≡ Sample pins end) where
    pub run-due : IsDueAt rules chip_ok shared_ok (Sample pins end) h.chip
    run-due = subst (λ (w : Due Pins). IsDueAt rules chip_ok shared_ok w h.chip) due hd.due

    lease : IsLease rules chip_ok shared_ok base t h.number h.amount pins end h.chip
    lease = subst (λ (w : Due Pins). IsLeased rules chip_ok shared_ok base t h.number h.amount w h.chip) due hd.lease

    -- a sample was counted with the lease alone
    pub run-fresh : (booked ahead : ℕ) → IsAhead rules chip_ok shared_ok base t h.number h.due booked ahead → ahead ≡ 0
    run-fresh booked ahead on = subst (λ (w : Due Pins). IsFresh w ahead) due on.fresh

    module _ (n : ℕ) (d : Chip) (ran : RunsTo rules (suc n) end pins h.chip d) where
      pub held-run : (amount : ℕ) → amount ≡ h.amount + n → IsHeld rules chip_ok shared_ok base t (record h { chip = d; due = Nothing; amount = amount })
      held-run amount is = record {
        inside = hd.inside;
        path = subst (λ (m : ℕ). OnPath rules (machine_of rules base) t h.number m d) (sym is)
            (subst (λ (x : Chip). OnPath rules (machine_of rules base) t h.number (h.amount + n) x) (sym ran.led.is) (lease n ran.led.each));
        due = tt;
        lease = tt;
      }

      pub ahead-run : (booked : ℕ) → h.amount ≡ booked → IsAhead rules chip_ok shared_ok base t h.number Nothing booked n
      ahead-run booked is = record {
        samples = λ j x low path.
            let here : OnPath rules (machine_of rules base) t h.number (h.amount + j) (sampled rules (suc j) pins h.chip) = lease j (λ k q. ran.led.each k (omega arith)) in
            let there : OnPath rules (machine_of rules base) t h.number (h.amount + j) x = subst (λ (m : ℕ). OnPath rules (machine_of rules base) t h.number (m + j) x) (sym is) path in
            ap (λ (y : Chip). (rules.next y).sample) (on-path-once rules (machine_of rules base) t h.number (h.amount + j) x (sampled rules (suc j) pins h.chip) there here) ∙ (ran.led.each (suc j) (omega arith)).0;
        fresh = tt;
      }

  -- the answer of a run, of which one sample is counted
  pub run-rest : (r : ℕ) (end : Key) (pins : Pins) (c d : Chip) → RunsTo rules r end pins c d → r ≡ suc (r - 1)
  run-rest r end pins c d ran = let some = ran.led.some in omega arith

  pub ran-rest : (r : ℕ) (end : Key) (pins : Pins) (c d : Chip) → RunsTo rules r end pins c d → RunsTo rules (suc (r - 1)) end pins c d
  ran-rest r end pins c d ran = subst (λ (n : ℕ). RunsTo rules n end pins c d) (run-rest r end pins c d ran) ran

module _ {Chip Shared Pins : Type 0} (rules : Rules Chip Shared Pins) where
  pub settles-nothing : (h : HeldValue Chip Pins) → h.due ≡ Nothing → Settles rules h.due h h
  settles-nothing h due = subst (λ (w : Due Pins). Settles rules w h h) (sym due) refl

  pub settles-advanced : (h : HeldValue Chip Pins) → h.due ≡ Advance → (d : Chip) → d ≡ rules.advance h.chip → Settles rules h.due h (record h { chip = d; due = Nothing })
  settles-advanced h due d is = subst (λ (w : Due Pins). Settles rules w h (record h { chip = d; due = Nothing })) (sym due) (ap (λ (x : Chip). record h { chip = x; due = Nothing }) is)

  pub settles-run : (h : HeldValue Chip Pins) (pins : Pins) (end : Key) → h.due ≡ Sample pins end → (n : ℕ) (d : Chip) → RunsTo rules (suc n) end pins h.chip d → (amount : ℕ) → amount ≡ h.amount + n
      → Settles rules h.due h (record h { chip = d; due = Nothing; amount = amount })
  settles-run h pins end due n d ran amount is =
      subst (λ (w : Due Pins). Settles rules w h (record h { chip = d; due = Nothing; amount = amount })) (sym due) (n, ran, ap (λ (m : ℕ). record h { chip = d; due = Nothing; amount = m }) is)

  -- of the value that contracts see
  pub settles-at : (b v k : HeldValue Chip Pins) → b ≡ v → Settles rules b.due b k → Settles rules v.due v k
  settles-at b v k is settles = subst (λ (x : HeldValue Chip Pins). Settles rules x.due x k) is settles
