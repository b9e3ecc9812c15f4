use Rattle.std.proofs.Common.{◌≡◌, slice_set, ◌∙◌, arith, vec_capacity, length-set}
use Rattle.md_word.specs.Clock.{cycle_limit}
use Rattle.chip_core.specs.Cores.{CoreValue, seen}
use Rattle.chip_core.specs.Events.{IsEnabled, after}
use Rattle.chip_core.specs.declared.event.Event.TheVariants.{Sample}
use Rattle.chip_core.proofs.Lists.{held-sampled, at-value, enabled-at, core-after, stands-core, core_value}
use Rattle.chip_core.proofs.scheduler.Core.sample.Given.{Over}
use Rattle.chip_core.proofs.scheduler.Core.sample.Goals as goal

-- the fields as they were, and as the code left them
abbrev before : (g : Over) → goal.After-drop-pins g → CoreValue g.row.C-Chip.Denot g.row.C-Shared.Denot
before g c = core_value g.C.ChipSet.rules c.self.inside.shared c.self.inside.chips.items c.self.inside.bounds.items c.self.inside.journal.items (vec_capacity c.self.inside.journal)

abbrev now : (g : Over) → goal.After-drop-pins g → CoreValue g.row.C-Chip.Denot g.row.C-Shared.Denot
now g c =
    core_value g.C.ChipSet.rules c.self.inside.shared (slice_set c.self.inside.chips.items c.args.chip c.sample.new.chip)
    (slice_set c.self.inside.bounds.items c.args.chip c.bound_after.result) c.self.inside.journal.items (vec_capacity c.self.inside.journal)

enabled : (g : Over) (c : goal.After-drop-pins g) → IsEnabled g.C.ChipSet.rules (seen g.C.ChipSet.rules (before g c)) cycle_limit (Sample c.args.chip)
enabled g c = enabled-at g.C.ChipSet.rules (before g c) c.args.self.now cycle_limit (Sample c.args.chip) c.self.view_is c.requires

left : (g : Over) (c : goal.After-drop-pins g) → seen g.C.ChipSet.rules (now g c) ≡ after g.C.ChipSet.rules (seen g.C.ChipSet.rules (before g c)) (Sample c.args.chip)
left g c =
    held-sampled g.C.ChipSet.rules (before g c) c.args.chip cycle_limit (enabled g c)
    (omega (arith, c.requires.0, c.self.invariant.shape.chip_count)) (omega (arith, c.requires.0, c.self.invariant.shape.bound_count))
    c.index_mut-held.result.now c.sample.new.chip c.next-next.result c.bound_after.result c.pins-pins.result
    c.index_mut-held.ensures.value c.next-next.ensures.value c.pins-pins.ensures.value c.sample.ensures c.bound_after.ensures

pub invariant_of-self : goal.invariant_of-self
invariant_of-self g c =
    core-after g.C.ChipSet.rules g.C.ChipSet.chip_ok g.C.ChipSet.shared_ok g.met.C.ChipSet.lawful
    (before g c) (now g c) c.self.invariant (Sample c.args.chip) (enabled g c)
    (length-set c.self.inside.chips.items c.args.chip c.sample.new.chip ∙ c.self.invariant.shape.chip_count)
    (length-set c.self.inside.bounds.items c.args.chip c.bound_after.result ∙ c.self.invariant.shape.bound_count)
    (left g c)

pub returns-clause-after : goal.returns-clause-after
returns-clause-after g c = at-value g.C.ChipSet.rules (before g c) c.args.self.now (now g c) (Sample c.args.chip) c.self.view_is (left g c)

pub returns-clause-stands : goal.returns-clause-stands
returns-clause-stands g c =
    stands-core g.C.ChipSet.rules g.C.ChipSet.chip_ok g.C.ChipSet.shared_ok g.met.C.ChipSet.lawful
    (before g c) c.args.self.now (now g c) c.self.view_is c.self.invariant (Sample c.args.chip) (left g c)
