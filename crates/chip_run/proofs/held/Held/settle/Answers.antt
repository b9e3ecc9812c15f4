use Rattle.std.proofs.Common.{◌+◌, ◌-◌, ap, sym, ◌∙◌, arith}
use Rattle.chip_run.specs.Held.{HeldValue}
use Rattle.chip_run.proofs.Settling.{ahead-run, fresh-advanced, held-advanced, held-run, ran-rest, run-fresh, settles-advanced, settles-at, settles-nothing, settles-run}
use Rattle.chip_run.proofs.held.Held.settle.Goals as goal

pub returns-in-Nothing : goal.returns-in-Nothing
returns-in-Nothing g c = settles-nothing g.C.ChipSet.rules c.args.self.now (ap (λ (h : HeldValue g.row.C-Chip.Denot g.row.C-Pins.Denot). h.due) (sym c.self.view_is) ∙ c.in-Nothing.is)

pub invariant_of-self : goal.invariant_of-self
invariant_of-self g c = (
  c.self.invariant.0,
  held-advanced g.C.ChipSet.rules g.C.ChipSet.chip_ok g.C.ChipSet.shared_ok (g.C.ChipSet.core_of g.N.Named.base) g.N.Named.end _ c.self.invariant.1 c.in-Advance.is c.advance.new.chip c.advance.ensures,
  fresh-advanced g.C.ChipSet.rules g.C.ChipSet.chip_ok g.C.ChipSet.shared_ok (g.C.ChipSet.core_of g.N.Named.base) g.N.Named.end _ _ c.self.inside.share.amount c.self.inside.ahead c.self.invariant.2,
)

pub returns-in-Advance : goal.returns-in-Advance
returns-in-Advance g c = settles-at g.C.ChipSet.rules _ _ _ c.self.view_is (settles-advanced g.C.ChipSet.rules _ c.in-Advance.is c.advance.new.chip c.advance.ensures)

pub invariant_of-self-in-Sample : goal.invariant_of-self-in-Sample
invariant_of-self-in-Sample g c =
    let fresh = (run-fresh g.C.ChipSet.rules g.C.ChipSet.chip_ok g.C.ChipSet.shared_ok (g.C.ChipSet.core_of g.N.Named.base) g.N.Named.end _ c.in-Sample.pins c.in-Sample.end c.self.invariant.1 c.in-Sample.is c.self.inside.share.amount c.self.inside.ahead c.self.invariant.2) in (
      c.self.invariant.0,
      held-run g.C.ChipSet.rules g.C.ChipSet.chip_ok g.C.ChipSet.shared_ok (g.C.ChipSet.core_of g.N.Named.base) g.N.Named.end _ c.in-Sample.pins c.in-Sample.end c.self.invariant.1 c.in-Sample.is (c.run.result - 1) c.run.new.chip (ran-rest g.C.ChipSet.rules g.C.ChipSet.chip_ok g.C.ChipSet.shared_ok (g.C.ChipSet.core_of g.N.Named.base) g.N.Named.end c.run.result c.in-Sample.end c.in-Sample.pins _ c.run.new.chip c.run.ensures) (c.self.inside.share.amount + (c.run.result - 1)) (omega (arith, fresh)),
      ahead-run g.C.ChipSet.rules g.C.ChipSet.chip_ok g.C.ChipSet.shared_ok (g.C.ChipSet.core_of g.N.Named.base) g.N.Named.end _ c.in-Sample.pins c.in-Sample.end c.self.invariant.1 c.in-Sample.is (c.run.result - 1) c.run.new.chip (ran-rest g.C.ChipSet.rules g.C.ChipSet.chip_ok g.C.ChipSet.shared_ok (g.C.ChipSet.core_of g.N.Named.base) g.N.Named.end c.run.result c.in-Sample.end c.in-Sample.pins _ c.run.new.chip c.run.ensures) c.self.inside.share.amount (omega (arith, fresh)),
    )

pub returns-in-Sample : goal.returns-in-Sample
returns-in-Sample g c =
    let fresh = (run-fresh g.C.ChipSet.rules g.C.ChipSet.chip_ok g.C.ChipSet.shared_ok (g.C.ChipSet.core_of g.N.Named.base) g.N.Named.end _ c.in-Sample.pins c.in-Sample.end c.self.invariant.1 c.in-Sample.is c.self.inside.share.amount c.self.inside.ahead c.self.invariant.2) in
    settles-at g.C.ChipSet.rules _ _ _ c.self.view_is
    (settles-run g.C.ChipSet.rules _ c.in-Sample.pins c.in-Sample.end c.in-Sample.is (c.run.result - 1) c.run.new.chip (ran-rest g.C.ChipSet.rules g.C.ChipSet.chip_ok g.C.ChipSet.shared_ok (g.C.ChipSet.core_of g.N.Named.base) g.N.Named.end c.run.result c.in-Sample.end c.in-Sample.pins _ c.run.new.chip c.run.ensures) (c.self.inside.share.amount + (c.run.result - 1)) (omega (arith, fresh)))
