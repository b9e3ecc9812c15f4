use Rattle.std.proofs.Common.{◌≡◌, ℕ, ◌+◌, ◌-◌, ap, subst, sym, ◌∙◌, arith}
use Rattle.chip_core.specs.Chips.{Lawful}
use Rattle.chip_run.specs.Held.{HeldValue, IsAhead}
use Rattle.chip_run.specs.declared.held.Due.{Due}
use Rattle.chip_run.specs.declared.held.Due.TheVariants.{Nothing}
use Rattle.chip_run.proofs.Keeping.{kept-sampled, kept-stayed}
use Rattle.chip_run.proofs.Wholes.{ahead-ran, due-here, held-ran, sampled-by}
use Rattle.chip_run.proofs.whole.sample_held.Given.{Over}
use Rattle.chip_run.proofs.whole.sample_held.Goals as goal

lawful : (g : Over) → Lawful g.C.ChipSet.rules g.C.ChipSet.chip_ok g.C.ChipSet.shared_ok
lawful g = g.met.C.ChipSet.lawful

-- the samples beyond the counted moves, of which the event count has the number
on-total : (g : Over) (n : ℕ) (due : Due g.row.C-Pins.Denot) {booked total : ℕ} (ahead : ℕ) → booked ≡ total → IsAhead g.C.ChipSet.rules g.C.ChipSet.chip_ok g.C.ChipSet.shared_ok (g.C.ChipSet.core_of g.N.Named.base) g.N.Named.end n due booked ahead
    → IsAhead g.C.ChipSet.rules g.C.ChipSet.chip_ok g.C.ChipSet.shared_ok (g.C.ChipSet.core_of g.N.Named.base) g.N.Named.end n due total ahead
on-total g n due ahead e on = subst (λ m. IsAhead g.C.ChipSet.rules g.C.ChipSet.chip_ok g.C.ChipSet.shared_ok (g.C.ChipSet.core_of g.N.Named.base) g.N.Named.end n due m ahead) e on

free : {Chip Pins : Type 0} {h k : HeldValue Chip Pins} → h ≡ k → k.due ≡ Nothing → h.due ≡ Nothing
free {Chip = Chip} {Pins = Pins} e q = ap (λ (x : HeldValue Chip Pins). x.due) e ∙ q

number : {Chip Pins : Type 0} {h k : HeldValue Chip Pins} {n : ℕ} → h ≡ k → k.number ≡ n → h.number ≡ n
number {Chip = Chip} {Pins = Pins} e q = ap (λ (x : HeldValue Chip Pins). x.number) e ∙ q

pub run-requires-clause-sample : goal.run-requires-clause-sample
run-requires-clause-sample g c = (due-here g.C.ChipSet.rules g.C.ChipSet.chip_ok g.C.ChipSet.shared_ok (lawful g) (g.C.ChipSet.core_of g.N.Named.base) g.N.Named.end c.args.parts.now c.args.number _ c.held.invariant.1 (free c.held.view_is c.requires.free) (number c.held.view_is c.requires.number) c.args.book.now.total c.held.inside.ahead (ap (λ n. n + c.held.inside.ahead) (c.audit.ensures.whole (c.held.invariant.0 ∙ sym c.requires.whole))) (on-total g c.held.inside.number c.held.inside.due c.held.inside.ahead (c.audit.ensures.whole (c.held.invariant.0 ∙ sym c.requires.whole)) c.held.invariant.2) c.requires.locked c.lease.new.self _ c.pins-pins.result c.in-Some.end (sampled-by g.C.ChipSet.rules g.C.ChipSet.chip_ok g.C.ChipSet.shared_ok (g.C.ChipSet.core_of g.N.Named.base) g.N.Named.end c.args.parts.now c.args.number _ c.in-Some.end c.lease.new.self c.pins-pins.result c.in-Some.ensures c.pins-pins.ensures)).0

pub run-requires-clause-time : goal.run-requires-clause-time
run-requires-clause-time g c = (due-here g.C.ChipSet.rules g.C.ChipSet.chip_ok g.C.ChipSet.shared_ok (lawful g) (g.C.ChipSet.core_of g.N.Named.base) g.N.Named.end c.args.parts.now c.args.number _ c.held.invariant.1 (free c.held.view_is c.requires.free) (number c.held.view_is c.requires.number) c.args.book.now.total c.held.inside.ahead (ap (λ n. n + c.held.inside.ahead) (c.audit.ensures.whole (c.held.invariant.0 ∙ sym c.requires.whole))) (on-total g c.held.inside.number c.held.inside.due c.held.inside.ahead (c.audit.ensures.whole (c.held.invariant.0 ∙ sym c.requires.whole)) c.held.invariant.2) c.requires.locked c.lease.new.self _ c.pins-pins.result c.in-Some.end (sampled-by g.C.ChipSet.rules g.C.ChipSet.chip_ok g.C.ChipSet.shared_ok (g.C.ChipSet.core_of g.N.Named.base) g.N.Named.end c.args.parts.now c.args.number _ c.in-Some.end c.lease.new.self c.pins-pins.result c.in-Some.ensures c.pins-pins.ensures)).1

pub run-requires-clause-pins : goal.run-requires-clause-pins
run-requires-clause-pins g c = (due-here g.C.ChipSet.rules g.C.ChipSet.chip_ok g.C.ChipSet.shared_ok (lawful g) (g.C.ChipSet.core_of g.N.Named.base) g.N.Named.end c.args.parts.now c.args.number _ c.held.invariant.1 (free c.held.view_is c.requires.free) (number c.held.view_is c.requires.number) c.args.book.now.total c.held.inside.ahead (ap (λ n. n + c.held.inside.ahead) (c.audit.ensures.whole (c.held.invariant.0 ∙ sym c.requires.whole))) (on-total g c.held.inside.number c.held.inside.due c.held.inside.ahead (c.audit.ensures.whole (c.held.invariant.0 ∙ sym c.requires.whole)) c.held.invariant.2) c.requires.locked c.lease.new.self _ c.pins-pins.result c.in-Some.end (sampled-by g.C.ChipSet.rules g.C.ChipSet.chip_ok g.C.ChipSet.shared_ok (g.C.ChipSet.core_of g.N.Named.base) g.N.Named.end c.args.parts.now c.args.number _ c.in-Some.end c.lease.new.self c.pins-pins.result c.in-Some.ensures c.pins-pins.ensures)).2

pub run-requires-clause-number : goal.run-requires-clause-number
run-requires-clause-number g c = (due-here g.C.ChipSet.rules g.C.ChipSet.chip_ok g.C.ChipSet.shared_ok (lawful g) (g.C.ChipSet.core_of g.N.Named.base) g.N.Named.end c.args.parts.now c.args.number _ c.held.invariant.1 (free c.held.view_is c.requires.free) (number c.held.view_is c.requires.number) c.args.book.now.total c.held.inside.ahead (ap (λ n. n + c.held.inside.ahead) (c.audit.ensures.whole (c.held.invariant.0 ∙ sym c.requires.whole))) (on-total g c.held.inside.number c.held.inside.due c.held.inside.ahead (c.audit.ensures.whole (c.held.invariant.0 ∙ sym c.requires.whole)) c.held.invariant.2) c.requires.locked c.lease.new.self _ c.pins-pins.result c.in-Some.end (sampled-by g.C.ChipSet.rules g.C.ChipSet.chip_ok g.C.ChipSet.shared_ok (g.C.ChipSet.core_of g.N.Named.base) g.N.Named.end c.args.parts.now c.args.number _ c.in-Some.end c.lease.new.self c.pins-pins.result c.in-Some.ensures c.pins-pins.ensures)).3

pub invariant_of-held-2 : goal.invariant_of-held-2
invariant_of-held-2 g c = (
  c.add-2.ensures.parts ∙ c.add.ensures.parts ∙ c.audit.ensures.parts ∙ c.held.invariant.0,
  held-ran g.C.ChipSet.rules g.C.ChipSet.chip_ok g.C.ChipSet.shared_ok (lawful g) (g.C.ChipSet.core_of g.N.Named.base) g.N.Named.end c.args.parts.now c.args.number _ c.held.invariant.1 (free c.held.view_is c.requires.free) (number c.held.view_is c.requires.number) c.args.book.now.total c.held.inside.ahead (ap (λ n. n + c.held.inside.ahead) (c.audit.ensures.whole (c.held.invariant.0 ∙ sym c.requires.whole))) (on-total g c.held.inside.number c.held.inside.due c.held.inside.ahead (c.audit.ensures.whole (c.held.invariant.0 ∙ sym c.requires.whole)) c.held.invariant.2) c.requires.locked c.lease.new.self _ c.pins-pins.result c.in-Some.end (sampled-by g.C.ChipSet.rules g.C.ChipSet.chip_ok g.C.ChipSet.shared_ok (g.C.ChipSet.core_of g.N.Named.base) g.N.Named.end c.args.parts.now c.args.number _ c.in-Some.end c.lease.new.self c.pins-pins.result c.in-Some.ensures c.pins-pins.ensures) c.run.result c.run.new.chip c.run.ensures (c.add-2.new.share.amount + (c.run.result - 1)) (let a = c.add-2.ensures.amount in let b = c.add.ensures.amount in let d = c.audit.ensures.amount in omega arith),
  ahead-ran g.C.ChipSet.rules g.C.ChipSet.chip_ok g.C.ChipSet.shared_ok (lawful g) (g.C.ChipSet.core_of g.N.Named.base) g.N.Named.end c.args.parts.now c.args.number _ c.held.invariant.1 (free c.held.view_is c.requires.free) (number c.held.view_is c.requires.number) c.args.book.now.total c.held.inside.ahead (ap (λ n. n + c.held.inside.ahead) (c.audit.ensures.whole (c.held.invariant.0 ∙ sym c.requires.whole))) (on-total g c.held.inside.number c.held.inside.due c.held.inside.ahead (c.audit.ensures.whole (c.held.invariant.0 ∙ sym c.requires.whole)) c.held.invariant.2) c.requires.locked c.lease.new.self _ c.pins-pins.result c.in-Some.end (sampled-by g.C.ChipSet.rules g.C.ChipSet.chip_ok g.C.ChipSet.shared_ok (g.C.ChipSet.core_of g.N.Named.base) g.N.Named.end c.args.parts.now c.args.number _ c.in-Some.end c.lease.new.self c.pins-pins.result c.in-Some.ensures c.pins-pins.ensures) c.run.result c.run.new.chip c.run.ensures c.add-2.new.share.amount (let a = c.add-2.ensures.amount in let b = c.add.ensures.amount in let d = c.audit.ensures.amount in omega arith),
)

pub returns-clause-locked : goal.returns-clause-locked
returns-clause-locked g c = λ counts inside booked lk.
    kept-sampled g.C.ChipSet.rules g.C.ChipSet.chip_ok g.C.ChipSet.shared_ok (lawful g) (g.C.ChipSet.core_of g.N.Named.base) g.N.Named.end c.args.parts.now c.args.number _ c.held.invariant.1 (free c.held.view_is c.requires.free) (number c.held.view_is c.requires.number) c.args.book.now.total c.held.inside.ahead (ap (λ n. n + c.held.inside.ahead) (c.audit.ensures.whole (c.held.invariant.0 ∙ sym c.requires.whole))) (on-total g c.held.inside.number c.held.inside.due c.held.inside.ahead (c.audit.ensures.whole (c.held.invariant.0 ∙ sym c.requires.whole)) c.held.invariant.2) counts inside booked lk c.lease.new.self _ c.pins-pins.result c.in-Some.end (sampled-by g.C.ChipSet.rules g.C.ChipSet.chip_ok g.C.ChipSet.shared_ok (g.C.ChipSet.core_of g.N.Named.base) g.N.Named.end c.args.parts.now c.args.number _ c.in-Some.end c.lease.new.self c.pins-pins.result c.in-Some.ensures c.pins-pins.ensures) c.add-2.new.self.total
    (let a = c.add-2.ensures.total in let b = c.add.ensures.total in let d = c.audit.ensures.total in let w = (c.audit.ensures.whole (c.held.invariant.0 ∙ sym c.requires.whole)) in omega arith)

pub returns-in_default-clause-locked : goal.returns-in_default-clause-locked
returns-in_default-clause-locked g c = λ counts inside booked lk.
    kept-stayed g.C.ChipSet.rules g.C.ChipSet.chip_ok g.C.ChipSet.shared_ok (lawful g) (g.C.ChipSet.core_of g.N.Named.base) g.N.Named.end c.args.parts.now c.args.number _ c.held.invariant.1 (free c.held.view_is c.requires.free) (number c.held.view_is c.requires.number) c.args.book.now.total c.held.inside.ahead (ap (λ n. n + c.held.inside.ahead) (c.audit.ensures.whole (c.held.invariant.0 ∙ sym c.requires.whole))) (on-total g c.held.inside.number c.held.inside.due c.held.inside.ahead (c.audit.ensures.whole (c.held.invariant.0 ∙ sym c.requires.whole)) c.held.invariant.2) counts inside booked lk c.lease.new.self c.in_default.ensures c.add.new.self.total
    (let b = c.add.ensures.total in let d = c.audit.ensures.total in let w = (c.audit.ensures.whole (c.held.invariant.0 ∙ sym c.requires.whole)) in omega arith)
