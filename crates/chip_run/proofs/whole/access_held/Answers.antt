use Rattle.std.proofs.Common.{◌≡◌, ℕ, ◌+◌, refl, ap, subst, sym, ◌∙◌, arith}
use Rattle.chip_core.specs.Chips.{Lawful}
use Rattle.chip_run.specs.Held.{HeldValue, IsAhead}
use Rattle.chip_run.specs.declared.held.Due.{Due}
use Rattle.chip_run.specs.declared.held.Due.TheVariants.{Nothing}
use Rattle.chip_run.proofs.Keeping.{found-at, kept-stayed, place-at}
use Rattle.chip_run.proofs.Leasts.{turn-least}
use Rattle.chip_run.proofs.Wholes.{ahead-none, held-whole, kept-whole, locked-same}
use Rattle.chip_run.proofs.whole.access_held.Given.{Over}
use Rattle.chip_run.proofs.whole.access_held.Goals as goal

lawful : (g : Over) → Lawful g.C.ChipSet.rules g.C.ChipSet.chip_ok g.C.ChipSet.shared_ok
lawful g = g.met.C.ChipSet.lawful

-- the samples beyond the counted moves, of which the event count has the number
on-total : (g : Over) (n : ℕ) (due : Due g.row.C-Pins.Denot) {booked total : ℕ} (ahead : ℕ) → booked ≡ total → IsAhead g.C.ChipSet.rules g.C.ChipSet.chip_ok g.C.ChipSet.shared_ok (g.C.ChipSet.core_of g.N.Named.base) g.N.Named.end n due booked ahead
    → IsAhead g.C.ChipSet.rules g.C.ChipSet.chip_ok g.C.ChipSet.shared_ok (g.C.ChipSet.core_of g.N.Named.base) g.N.Named.end n due total ahead
on-total g n due ahead e on = subst (λ m. IsAhead g.C.ChipSet.rules g.C.ChipSet.chip_ok g.C.ChipSet.shared_ok (g.C.ChipSet.core_of g.N.Named.base) g.N.Named.end n due m ahead) e on

free : {Chip Pins : Type 0} {h k : HeldValue Chip Pins} → h ≡ k → k.due ≡ Nothing → h.due ≡ Nothing
free {Chip = Chip} {Pins = Pins} e q = ap (λ (x : HeldValue Chip Pins). x.due) e ∙ q

number : {Chip Pins : Type 0} {h k : HeldValue Chip Pins} {n : ℕ} → h ≡ k → k.number ≡ n → h.number ≡ n
number {Chip = Chip} {Pins = Pins} e q = ap (λ (x : HeldValue Chip Pins). x.number) e ∙ q

pub access-requires-clause-turn : goal.access-requires-clause-turn
access-requires-clause-turn g c = turn-least g.C.ChipSet.rules g.C.ChipSet.chip_ok g.C.ChipSet.shared_ok (lawful g) c.args.parts.now c.args.number c.args.book.now.total _ (found-at g.C.ChipSet.rules g.C.ChipSet.chip_ok g.C.ChipSet.shared_ok (lawful g) (g.C.ChipSet.core_of g.N.Named.base) g.N.Named.end c.args.parts.now c.args.number _ c.held.invariant.1 (free c.held.view_is c.requires.free) (number c.held.view_is c.requires.number) c.args.book.now.total c.held.inside.ahead (ap (λ n. n + c.held.inside.ahead) (c.audit.ensures.whole (c.held.invariant.0 ∙ sym c.requires.whole))) (on-total g c.held.inside.number c.held.inside.due c.held.inside.ahead (c.audit.ensures.whole (c.held.invariant.0 ∙ sym c.requires.whole)) c.held.invariant.2) c.requires.locked _ refl) c.requires.least

pub access-requires-clause-place : goal.access-requires-clause-place
access-requires-clause-place g c = place-at g.C.ChipSet.rules g.C.ChipSet.chip_ok g.C.ChipSet.shared_ok (lawful g) (g.C.ChipSet.core_of g.N.Named.base) g.N.Named.end c.args.parts.now c.args.number _ c.held.invariant.1 (free c.held.view_is c.requires.free) (number c.held.view_is c.requires.number) c.args.book.now.total c.held.inside.ahead (ap (λ n. n + c.held.inside.ahead) (c.audit.ensures.whole (c.held.invariant.0 ∙ sym c.requires.whole))) (on-total g c.held.inside.number c.held.inside.due c.held.inside.ahead (c.audit.ensures.whole (c.held.invariant.0 ∙ sym c.requires.whole)) c.held.invariant.2) c.requires.locked

pub invariant_of-held : goal.invariant_of-held
invariant_of-held g c = (
  c.add-then-access.ensures.parts ∙ c.add.ensures.parts ∙ c.audit.ensures.parts ∙ c.held.invariant.0,
  held-whole g.C.ChipSet.rules g.C.ChipSet.chip_ok g.C.ChipSet.shared_ok (lawful g) (g.C.ChipSet.core_of g.N.Named.base) g.N.Named.end c.args.parts.now c.args.number _ c.held.invariant.1 (free c.held.view_is c.requires.free) (number c.held.view_is c.requires.number) c.args.book.now.total c.held.inside.ahead (ap (λ n. n + c.held.inside.ahead) (c.audit.ensures.whole (c.held.invariant.0 ∙ sym c.requires.whole))) (on-total g c.held.inside.number c.held.inside.due c.held.inside.ahead (c.audit.ensures.whole (c.held.invariant.0 ∙ sym c.requires.whole)) c.held.invariant.2) c.access.new.self c.access.new.chip (c.access.ensures.made c.if-access.true) (c.add-then-access.new.share.amount + 0) (let a = c.add-then-access.ensures.amount in let b = c.add.ensures.amount in let d = c.audit.ensures.amount in omega arith) c.requires.locked,
  ahead-none g.C.ChipSet.rules g.C.ChipSet.chip_ok g.C.ChipSet.shared_ok (g.C.ChipSet.core_of g.N.Named.base) g.N.Named.end c.held.inside.number c.held.inside.due (free c.held.view_is c.requires.free) c.add-then-access.new.share.amount,
)

pub returns-then-access-clause-locked : goal.returns-then-access-clause-locked
returns-then-access-clause-locked g c =
    kept-whole g.C.ChipSet.rules g.C.ChipSet.chip_ok g.C.ChipSet.shared_ok (lawful g) (g.C.ChipSet.core_of g.N.Named.base) g.N.Named.end c.args.parts.now c.args.number _ c.held.invariant.1 (free c.held.view_is c.requires.free) (number c.held.view_is c.requires.number) c.args.book.now.total c.held.inside.ahead (ap (λ n. n + c.held.inside.ahead) (c.audit.ensures.whole (c.held.invariant.0 ∙ sym c.requires.whole))) (on-total g c.held.inside.number c.held.inside.due c.held.inside.ahead (c.audit.ensures.whole (c.held.invariant.0 ∙ sym c.requires.whole)) c.held.invariant.2) c.access.new.self c.access.new.chip (c.access.ensures.made c.if-access.true) c.add-then-access.new.self.total
    (let a = c.add-then-access.ensures.total in let b = c.add.ensures.total in let d = c.audit.ensures.total in let w = (c.audit.ensures.whole (c.held.invariant.0 ∙ sym c.requires.whole)) in omega arith)

pub returns-else-access-clause-locked : goal.returns-else-access-clause-locked
returns-else-access-clause-locked g c = λ counts inside booked lk.
    kept-stayed g.C.ChipSet.rules g.C.ChipSet.chip_ok g.C.ChipSet.shared_ok (lawful g) (g.C.ChipSet.core_of g.N.Named.base) g.N.Named.end c.args.parts.now c.args.number _ c.held.invariant.1 (free c.held.view_is c.requires.free) (number c.held.view_is c.requires.number) c.args.book.now.total c.held.inside.ahead (ap (λ n. n + c.held.inside.ahead) (c.audit.ensures.whole (c.held.invariant.0 ∙ sym c.requires.whole))) (on-total g c.held.inside.number c.held.inside.due c.held.inside.ahead (c.audit.ensures.whole (c.held.invariant.0 ∙ sym c.requires.whole)) c.held.invariant.2) counts inside booked lk c.access.new.self (c.access.ensures.bounds c.if-access.false) c.add.new.self.total
    (let b = c.add.ensures.total in let d = c.audit.ensures.total in let w = (c.audit.ensures.whole (c.held.invariant.0 ∙ sym c.requires.whole)) in omega arith)

pub returns-then-next-clause-locked : goal.returns-then-next-clause-locked
returns-then-next-clause-locked g c =
    locked-same g.C.ChipSet.rules g.C.ChipSet.chip_ok g.C.ChipSet.shared_ok (g.C.ChipSet.core_of g.N.Named.base) g.N.Named.end c.args.number c.args.parts.now c.args.book.now.total
