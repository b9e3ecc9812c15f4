use Rattle.std.proofs.Common.{◌≡◌, ℕ, ◌+◌, refl, ap, ap₂, subst, sym, ◌∙◌, arith}
use Rattle.chip_core.specs.Chips.{Lawful}
use Rattle.chip_run.specs.Held.{HeldValue, IsAhead}
use Rattle.chip_run.specs.Sections.{Announces, IsBlocked}
use Rattle.chip_run.specs.declared.held.Due.{Due}
use Rattle.chip_run.specs.declared.held.Due.TheVariants.{Nothing}
use Rattle.chip_run.proofs.Keeping.{blocked-found, found-at, held-performed-at, held-sampled-at, kept-performed, kept-sampled, kept-stayed, place-at}
use Rattle.chip_run.proofs.sections.step_held.Given.{Over}
use Rattle.chip_run.proofs.sections.step_held.Goals as goal

lawful : (g : Over) → Lawful g.C.ChipSet.rules g.C.ChipSet.chip_ok g.C.ChipSet.shared_ok
lawful g = g.met.C.ChipSet.lawful

-- the samples beyond the counted moves, of which the event count has the number
on-total : (g : Over) (n : ℕ) (due : Due g.row.C-Pins.Denot) {booked total : ℕ} (ahead : ℕ) → booked ≡ total → IsAhead g.C.ChipSet.rules g.C.ChipSet.chip_ok g.C.ChipSet.shared_ok (g.C.ChipSet.core_of g.N.Named.base) g.N.Named.end n due booked ahead
    → IsAhead g.C.ChipSet.rules g.C.ChipSet.chip_ok g.C.ChipSet.shared_ok (g.C.ChipSet.core_of g.N.Named.base) g.N.Named.end n due total ahead
on-total g n due ahead e on = subst (λ m. IsAhead g.C.ChipSet.rules g.C.ChipSet.chip_ok g.C.ChipSet.shared_ok (g.C.ChipSet.core_of g.N.Named.base) g.N.Named.end n due m ahead) e on

-- the held chip by its fields
abbrev held_value : {Chip Pins : Type 0} → ℕ → Chip → Due Pins → ℕ → ℕ → HeldValue Chip Pins
held_value n c d a p = record { number = n; chip = c; due = d; amount = a; passes = p }

free : {Chip Pins : Type 0} {h k : HeldValue Chip Pins} → h ≡ k → k.due ≡ Nothing → h.due ≡ Nothing
free {Chip = Chip} {Pins = Pins} e q = ap (λ (x : HeldValue Chip Pins). x.due) e ∙ q

number : {Chip Pins : Type 0} {h k : HeldValue Chip Pins} {n : ℕ} → h ≡ k → k.number ≡ n → h.number ≡ n
number {Chip = Chip} {Pins = Pins} e q = ap (λ (x : HeldValue Chip Pins). x.number) e ∙ q

pub step-requires-clause-place : goal.step-requires-clause-place
step-requires-clause-place g c = place-at g.C.ChipSet.rules g.C.ChipSet.chip_ok g.C.ChipSet.shared_ok (lawful g) (g.C.ChipSet.core_of g.N.Named.base) g.N.Named.end c.args.parts.now c.args.number _ c.held.invariant.1 (free c.held.view_is c.requires.free) (number c.held.view_is c.requires.number) c.args.book.now.total c.held.inside.ahead (ap (λ n. n + c.held.inside.ahead) (c.audit.ensures.whole (c.held.invariant.0 ∙ sym c.requires.whole))) (on-total g c.held.inside.number c.held.inside.due c.held.inside.ahead (c.audit.ensures.whole (c.held.invariant.0 ∙ sym c.requires.whole)) c.held.invariant.2) c.requires.locked

pub invariant_of-held : goal.invariant_of-held
invariant_of-held g c = (
  c.add-in-Performed.ensures.parts ∙ c.add.ensures.parts ∙ c.audit.ensures.parts ∙ c.held.invariant.0,
  held-performed-at g.C.ChipSet.rules g.C.ChipSet.chip_ok g.C.ChipSet.shared_ok (lawful g) (g.C.ChipSet.core_of g.N.Named.base) g.N.Named.end c.args.parts.now c.args.number _ c.held.invariant.1 (free c.held.view_is c.requires.free) (number c.held.view_is c.requires.number) c.args.book.now.total c.held.inside.ahead (ap (λ n. n + c.held.inside.ahead) (c.audit.ensures.whole (c.held.invariant.0 ∙ sym c.requires.whole))) (on-total g c.held.inside.number c.held.inside.due c.held.inside.ahead (c.audit.ensures.whole (c.held.invariant.0 ∙ sym c.requires.whole)) c.held.invariant.2) c.requires.locked c.step.new.self c.step.new.chip c.in-Performed.ensures (c.add-in-Performed.new.share.amount + 0) (let a = c.add-in-Performed.ensures.amount in let b = c.add.ensures.amount in let d = c.audit.ensures.amount in omega arith),
  record { samples = λ j x low. absurd (omega arith); fresh = refl },
)

pub returns-in-Performed-clause-locked : goal.returns-in-Performed-clause-locked
returns-in-Performed-clause-locked g c = λ counts inside booked lk.
    kept-performed g.C.ChipSet.rules g.C.ChipSet.chip_ok g.C.ChipSet.shared_ok (lawful g) (g.C.ChipSet.core_of g.N.Named.base) g.N.Named.end c.args.parts.now c.args.number _ c.held.invariant.1 (free c.held.view_is c.requires.free) (number c.held.view_is c.requires.number) c.args.book.now.total c.held.inside.ahead (ap (λ n. n + c.held.inside.ahead) (c.audit.ensures.whole (c.held.invariant.0 ∙ sym c.requires.whole))) (on-total g c.held.inside.number c.held.inside.due c.held.inside.ahead (c.audit.ensures.whole (c.held.invariant.0 ∙ sym c.requires.whole)) c.held.invariant.2) counts inside booked lk c.step.new.self c.step.new.chip c.in-Performed.ensures c.add-in-Performed.new.self.total
    (let a = c.add-in-Performed.ensures.total in let b = c.add.ensures.total in let d = c.audit.ensures.total in let w = c.audit.ensures.whole (c.held.invariant.0 ∙ sym c.requires.whole) in omega arith)

pub invariant_of-held-in-Sampled : goal.invariant_of-held-in-Sampled
invariant_of-held-in-Sampled g c = (
  c.add-in-Sampled.ensures.parts ∙ c.add.ensures.parts ∙ c.audit.ensures.parts ∙ c.held.invariant.0,
  held-sampled-at g.C.ChipSet.rules g.C.ChipSet.chip_ok g.C.ChipSet.shared_ok (lawful g) (g.C.ChipSet.core_of g.N.Named.base) g.N.Named.end c.args.parts.now c.args.number _ c.held.invariant.1 (free c.held.view_is c.requires.free) (number c.held.view_is c.requires.number) c.args.book.now.total c.held.inside.ahead (ap (λ n. n + c.held.inside.ahead) (c.audit.ensures.whole (c.held.invariant.0 ∙ sym c.requires.whole))) (on-total g c.held.inside.number c.held.inside.due c.held.inside.ahead (c.audit.ensures.whole (c.held.invariant.0 ∙ sym c.requires.whole)) c.held.invariant.2) c.requires.locked c.step.new.self c.step.new.chip c.in-Sampled.pins c.in-Sampled.end c.in-Sampled.ensures (c.add-in-Sampled.new.share.amount + 0) (let a = c.add-in-Sampled.ensures.amount in let b = c.add.ensures.amount in let d = c.audit.ensures.amount in omega arith),
  record { samples = λ j x low. absurd (omega arith); fresh = refl },
)

pub returns-in-Sampled-clause-locked : goal.returns-in-Sampled-clause-locked
returns-in-Sampled-clause-locked g c = λ counts inside booked lk.
    kept-sampled g.C.ChipSet.rules g.C.ChipSet.chip_ok g.C.ChipSet.shared_ok (lawful g) (g.C.ChipSet.core_of g.N.Named.base) g.N.Named.end c.args.parts.now c.args.number _ c.held.invariant.1 (free c.held.view_is c.requires.free) (number c.held.view_is c.requires.number) c.args.book.now.total c.held.inside.ahead (ap (λ n. n + c.held.inside.ahead) (c.audit.ensures.whole (c.held.invariant.0 ∙ sym c.requires.whole))) (on-total g c.held.inside.number c.held.inside.due c.held.inside.ahead (c.audit.ensures.whole (c.held.invariant.0 ∙ sym c.requires.whole)) c.held.invariant.2) counts inside booked lk c.step.new.self c.step.new.chip c.in-Sampled.pins c.in-Sampled.end c.in-Sampled.ensures c.add-in-Sampled.new.self.total
    (let a = c.add-in-Sampled.ensures.total in let b = c.add.ensures.total in let d = c.audit.ensures.total in let w = c.audit.ensures.whole (c.held.invariant.0 ∙ sym c.requires.whole) in omega arith)

pub returns-in-Blocked-clause-locked : goal.returns-in-Blocked-clause-locked
returns-in-Blocked-clause-locked g c = λ counts inside booked lk.
    kept-stayed g.C.ChipSet.rules g.C.ChipSet.chip_ok g.C.ChipSet.shared_ok (lawful g) (g.C.ChipSet.core_of g.N.Named.base) g.N.Named.end c.args.parts.now c.args.number _ c.held.invariant.1 (free c.held.view_is c.requires.free) (number c.held.view_is c.requires.number) c.args.book.now.total c.held.inside.ahead (ap (λ n. n + c.held.inside.ahead) (c.audit.ensures.whole (c.held.invariant.0 ∙ sym c.requires.whole))) (on-total g c.held.inside.number c.held.inside.due c.held.inside.ahead (c.audit.ensures.whole (c.held.invariant.0 ∙ sym c.requires.whole)) c.held.invariant.2) counts inside booked lk c.step.new.self c.in-Blocked.ensures.3 c.add.new.self.total
    (let b = c.add.ensures.total in let d = c.audit.ensures.total in let w = c.audit.ensures.whole (c.held.invariant.0 ∙ sym c.requires.whole) in omega arith)

pub returns-in-Finished-clause-locked : goal.returns-in-Finished-clause-locked
returns-in-Finished-clause-locked g c = λ counts inside booked lk.
    kept-stayed g.C.ChipSet.rules g.C.ChipSet.chip_ok g.C.ChipSet.shared_ok (lawful g) (g.C.ChipSet.core_of g.N.Named.base) g.N.Named.end c.args.parts.now c.args.number _ c.held.invariant.1 (free c.held.view_is c.requires.free) (number c.held.view_is c.requires.number) c.args.book.now.total c.held.inside.ahead (ap (λ n. n + c.held.inside.ahead) (c.audit.ensures.whole (c.held.invariant.0 ∙ sym c.requires.whole))) (on-total g c.held.inside.number c.held.inside.due c.held.inside.ahead (c.audit.ensures.whole (c.held.invariant.0 ∙ sym c.requires.whole)) c.held.invariant.2) counts inside booked lk c.step.new.self c.in-Finished.ensures.1 c.add.new.self.total
    (let b = c.add.ensures.total in let d = c.audit.ensures.total in let w = c.audit.ensures.whole (c.held.invariant.0 ∙ sym c.requires.whole) in omega arith)

pub returns-in-Performed-clause-found : goal.returns-in-Performed-clause-found
returns-in-Performed-clause-found g c = found-at g.C.ChipSet.rules g.C.ChipSet.chip_ok g.C.ChipSet.shared_ok (lawful g) (g.C.ChipSet.core_of g.N.Named.base) g.N.Named.end c.args.parts.now c.args.number _ c.held.invariant.1 (free c.held.view_is c.requires.free) (number c.held.view_is c.requires.number) c.args.book.now.total c.held.inside.ahead (ap (λ n. n + c.held.inside.ahead) (c.audit.ensures.whole (c.held.invariant.0 ∙ sym c.requires.whole))) (on-total g c.held.inside.number c.held.inside.due c.held.inside.ahead (c.audit.ensures.whole (c.held.invariant.0 ∙ sym c.requires.whole)) c.held.invariant.2) c.requires.locked c.args.held.now c.held.view_is

pub returns-in-Sampled-clause-found : goal.returns-in-Sampled-clause-found
returns-in-Sampled-clause-found g c = found-at g.C.ChipSet.rules g.C.ChipSet.chip_ok g.C.ChipSet.shared_ok (lawful g) (g.C.ChipSet.core_of g.N.Named.base) g.N.Named.end c.args.parts.now c.args.number _ c.held.invariant.1 (free c.held.view_is c.requires.free) (number c.held.view_is c.requires.number) c.args.book.now.total c.held.inside.ahead (ap (λ n. n + c.held.inside.ahead) (c.audit.ensures.whole (c.held.invariant.0 ∙ sym c.requires.whole))) (on-total g c.held.inside.number c.held.inside.due c.held.inside.ahead (c.audit.ensures.whole (c.held.invariant.0 ∙ sym c.requires.whole)) c.held.invariant.2) c.requires.locked c.args.held.now c.held.view_is

pub returns-in-Blocked-clause-found : goal.returns-in-Blocked-clause-found
returns-in-Blocked-clause-found g c = found-at g.C.ChipSet.rules g.C.ChipSet.chip_ok g.C.ChipSet.shared_ok (lawful g) (g.C.ChipSet.core_of g.N.Named.base) g.N.Named.end c.args.parts.now c.args.number _ c.held.invariant.1 (free c.held.view_is c.requires.free) (number c.held.view_is c.requires.number) c.args.book.now.total c.held.inside.ahead (ap (λ n. n + c.held.inside.ahead) (c.audit.ensures.whole (c.held.invariant.0 ∙ sym c.requires.whole))) (on-total g c.held.inside.number c.held.inside.due c.held.inside.ahead (c.audit.ensures.whole (c.held.invariant.0 ∙ sym c.requires.whole)) c.held.invariant.2) c.requires.locked c.args.held.now c.held.view_is

pub returns-in-Finished-clause-found : goal.returns-in-Finished-clause-found
returns-in-Finished-clause-found g c = found-at g.C.ChipSet.rules g.C.ChipSet.chip_ok g.C.ChipSet.shared_ok (lawful g) (g.C.ChipSet.core_of g.N.Named.base) g.N.Named.end c.args.parts.now c.args.number _ c.held.invariant.1 (free c.held.view_is c.requires.free) (number c.held.view_is c.requires.number) c.args.book.now.total c.held.inside.ahead (ap (λ n. n + c.held.inside.ahead) (c.audit.ensures.whole (c.held.invariant.0 ∙ sym c.requires.whole))) (on-total g c.held.inside.number c.held.inside.due c.held.inside.ahead (c.audit.ensures.whole (c.held.invariant.0 ∙ sym c.requires.whole)) c.held.invariant.2) c.requires.locked c.args.held.now c.held.view_is

pub returns-in-Blocked-clause-turn : goal.returns-in-Blocked-clause-turn
returns-in-Blocked-clause-turn g c =
    subst (λ (h : HeldValue g.row.C-Chip.Denot g.row.C-Pins.Denot). IsBlocked g.C.ChipSet.rules c.args.parts.now c.args.number h.chip c.in-Blocked.other c.in-Blocked.bound
    × Announces g.C.ChipSet.rules c.args.number c.args.parts.now h c.step.new.self (held_value c.held.inside.number c.step.new.chip c.held.inside.due (c.add.new.share.amount + 0) c.held.inside.passes)) c.held.view_is (
      blocked-found g.C.ChipSet.rules g.C.ChipSet.chip_ok g.C.ChipSet.shared_ok (lawful g) c.args.parts.now c.args.number c.args.book.now.total (held_value c.held.inside.number c.held.inside.chip c.held.inside.due (c.held.inside.share.amount + c.held.inside.ahead) c.held.inside.passes)
          (found-at g.C.ChipSet.rules g.C.ChipSet.chip_ok g.C.ChipSet.shared_ok (lawful g) (g.C.ChipSet.core_of g.N.Named.base) g.N.Named.end c.args.parts.now c.args.number _ c.held.invariant.1 (free c.held.view_is c.requires.free) (number c.held.view_is c.requires.number) c.args.book.now.total c.held.inside.ahead (ap (λ n. n + c.held.inside.ahead) (c.audit.ensures.whole (c.held.invariant.0 ∙ sym c.requires.whole))) (on-total g c.held.inside.number c.held.inside.due c.held.inside.ahead (c.audit.ensures.whole (c.held.invariant.0 ∙ sym c.requires.whole)) c.held.invariant.2) c.requires.locked _ refl) c.in-Blocked.other c.in-Blocked.bound c.in-Blocked.ensures.0 c.in-Blocked.ensures.1 c.in-Blocked.ensures.2,
      record {
        parts = c.in-Blocked.ensures.3;
        held = ap₂ (λ (d : g.row.C-Chip.Denot) (n : ℕ). held_value c.held.inside.number d c.held.inside.due n c.held.inside.passes) c.in-Blocked.ensures.4 (let b = c.add.ensures.amount in let d = c.audit.ensures.amount in let e : c.add.new.share.amount + 0 ≡ c.held.inside.share.amount + c.held.inside.ahead = omega arith in e);
      },
    )
