use Rattle.std.proofs.Common.{◌≡◌, subst, vec_capacity}
use Rattle.chip_core.specs.Cores.{machine_of, seen}
use Rattle.chip_core.specs.Looks.{least_lagging}
use Rattle.chip_core.specs.Machines.{key_of, mover}
use Rattle.chip_core.proofs.Lists.{core_value}
use Rattle.chip_core.proofs.Chosen.{least-found, lagging-found}
use Rattle.chip_core.proofs.scheduler.Core.found.Goals as goal

pub returns-clause-lagging : goal.returns-clause-lagging
returns-clause-lagging g c =
    subst (λ v. c.look.result.lagging ≡ least_lagging (seen g.C.ChipSet.rules v).bound (key_of g.C.ChipSet.rules (machine_of g.C.ChipSet.rules v)) g.C.ChipSet.rules.count) c.self.view_is
    (lagging-found g.C.ChipSet.rules g.C.ChipSet.chip_ok g.C.ChipSet.shared_ok
    (core_value g.C.ChipSet.rules c.self.inside.shared c.self.inside.chips.items c.self.inside.bounds.items c.self.inside.journal.items (vec_capacity c.self.inside.journal)) c.self.invariant
    c.deref.result.now c.deref.ensures.value c.deref-2.result.now c.deref-2.ensures.value c.look.result.lagging c.look.ensures.lagging)

pub returns-clause-least : goal.returns-clause-least
returns-clause-least g c =
    subst (λ v. c.look.result.least ≡ g.C.ChipSet.rules.next ((machine_of g.C.ChipSet.rules v).chip (mover g.C.ChipSet.rules (machine_of g.C.ChipSet.rules v)))) c.self.view_is
    (least-found g.C.ChipSet.rules g.C.ChipSet.chip_ok g.C.ChipSet.shared_ok
    (core_value g.C.ChipSet.rules c.self.inside.shared c.self.inside.chips.items c.self.inside.bounds.items c.self.inside.journal.items (vec_capacity c.self.inside.journal)) c.self.invariant
    c.deref.result.now c.deref.ensures.value c.look.result.least c.look.ensures.least)
