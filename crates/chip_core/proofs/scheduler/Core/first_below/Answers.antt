use Rattle.std.proofs.Common.{arith, vec_capacity}
use Rattle.chip_core.proofs.Lists.{core_value}
use Rattle.chip_core.proofs.Turns.{late-found}
use Rattle.chip_core.proofs.scheduler.Core.first_below.Goals as goal

pub index-requires : goal.index-requires
index-requires g c = omega (arith, c.least_of-chip.ensures.inside, c.deref.ensures.len)

pub returns-else-index-t-clause-found : goal.returns-else-index-t-clause-found
returns-else-index-t-clause-found g c =
    late-found g.C.ChipSet.rules (core_value g.C.ChipSet.rules c.self.inside.shared c.self.inside.chips.items c.self.inside.bounds.items c.self.inside.journal.items (vec_capacity c.self.inside.journal))
    c.args.self.now c.self.view_is c.self.invariant.shape.bound_count c.deref.result.now c.deref.ensures.value c.least_of-chip.result c.least_of-chip.ensures.value c.index.result.now c.index.ensures
    c.least_of-chip.ensures.inside c.args.t c.if-index-t.false
