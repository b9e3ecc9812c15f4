use Rattle.std.proofs.Common.{refl, sym, subst, Option, Some}
use Rattle.chip_run.specs.Held.{HeldValue}
use Rattle.chip_run.specs.Rounds.{SettlesAt}
use Rattle.chip_run.proofs.helds.settle_place.Goals as goal

pub returns-in-Some-clause-settled : goal.returns-in-Some-clause-settled
returns-in-Some-clause-settled g c =
    subst (λ (o : Option (HeldValue g.row.C-Chip.Denot g.row.C-Pins.Denot)). SettlesAt g.C.ChipSet.rules o (Some c.settle.new.self)) (sym c.in-Some.is) (c.settle.new.self, refl, c.settle.ensures)
