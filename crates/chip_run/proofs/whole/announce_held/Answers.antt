use Rattle.std.proofs.Common.{◌≡◌, ℕ, ◌+◌, ap, subst, sym, ◌∙◌, arith}
use Rattle.chip_core.specs.Chips.{Lawful}
use Rattle.chip_run.specs.Held.{HeldValue, IsAhead}
use Rattle.chip_run.specs.declared.held.Due.{Due}
use Rattle.chip_run.specs.declared.held.Due.TheVariants.{Nothing}
use Rattle.chip_run.proofs.Keeping.{kept-stayed}
use Rattle.chip_run.proofs.whole.announce_held.Given.{Over}
use Rattle.chip_run.proofs.whole.announce_held.Goals as goal

lawful : (g : Over) → Lawful g.C.ChipSet.rules g.C.ChipSet.chip_ok g.C.ChipSet.shared_ok
lawful g = g.met.C.ChipSet.lawful

-- the samples beyond the counted moves, of which the event count has the number
on-total : (g : Over) (n : ℕ) (due : Due g.row.C-Pins.Denot) {booked total : ℕ} (ahead : ℕ) → booked ≡ total → IsAhead g.C.ChipSet.rules g.C.ChipSet.chip_ok g.C.ChipSet.shared_ok (g.C.ChipSet.core_of g.N.Named.base) g.N.Named.end n due booked ahead
    → IsAhead g.C.ChipSet.rules g.C.ChipSet.chip_ok g.C.ChipSet.shared_ok (g.C.ChipSet.core_of g.N.Named.base) g.N.Named.end n due total ahead
on-total g n due ahead e on = subst (λ m. IsAhead g.C.ChipSet.rules g.C.ChipSet.chip_ok g.C.ChipSet.shared_ok (g.C.ChipSet.core_of g.N.Named.base) g.N.Named.end n due m ahead) e on

free : {Chip Pins : Type 0} {h k : HeldValue Chip Pins} → h ≡ k → k.due ≡ Nothing → h.due ≡ Nothing
free {Chip = Chip} {Pins = Pins} e q = ap (λ (x : HeldValue Chip Pins). x.due) e ∙ q

number : {Chip Pins : Type 0} {h k : HeldValue Chip Pins} {n : ℕ} → h ≡ k → k.number ≡ n → h.number ≡ n
number {Chip = Chip} {Pins = Pins} e q = ap (λ (x : HeldValue Chip Pins). x.number) e ∙ q

pub returns-clause-locked : goal.returns-clause-locked
returns-clause-locked g c = λ counts inside booked lk.
    kept-stayed g.C.ChipSet.rules g.C.ChipSet.chip_ok g.C.ChipSet.shared_ok (lawful g) (g.C.ChipSet.core_of g.N.Named.base) g.N.Named.end c.args.parts.now c.args.number _ c.held.invariant.1 (free c.held.view_is c.requires.free) (number c.held.view_is c.requires.number) c.args.book.now.total c.held.inside.ahead (ap (λ n. n + c.held.inside.ahead) (c.audit.ensures.whole (c.held.invariant.0 ∙ sym c.requires.whole))) (on-total g c.held.inside.number c.held.inside.due c.held.inside.ahead (c.audit.ensures.whole (c.held.invariant.0 ∙ sym c.requires.whole)) c.held.invariant.2) counts inside booked lk c.announce.new.self c.announce.ensures c.add.new.self.total
    (let b = c.add.ensures.total in let d = c.audit.ensures.total in let w = c.audit.ensures.whole (c.held.invariant.0 ∙ sym c.requires.whole) in omega arith)
