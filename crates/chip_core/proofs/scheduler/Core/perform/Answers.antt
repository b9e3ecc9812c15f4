use Rattle.std.proofs.Common.{◌≡◌, refl, slice_set, ◌∙◌, arith, vec_capacity, length-set}
use Rattle.md_word.specs.Clock.{cycle_limit}
use Rattle.chip_core.specs.Cores.{CoreValue, seen}
use Rattle.chip_core.specs.Events.{IsEnabled, after}
use Rattle.chip_core.specs.declared.event.Event.TheVariants.{Perform}
use Rattle.chip_core.proofs.Lists.{held-performed, at-value, enabled-at, core-after, stands-core, core_value}
use Rattle.chip_core.proofs.scheduler.Core.perform.Given.{Over}
use Rattle.chip_core.proofs.scheduler.Core.perform.Goals as goal

-- the fields as they were, and as the code left them
abbrev before : (g : Over) → goal.After-push_reserved g → CoreValue g.row.C-Chip.Denot g.row.C-Shared.Denot
before g c = core_value g.C.ChipSet.rules c.self.inside.shared c.self.inside.chips.items c.self.inside.bounds.items c.self.inside.journal.items (vec_capacity c.self.inside.journal)

abbrev now : (g : Over) → goal.After-push_reserved g → CoreValue g.row.C-Chip.Denot g.row.C-Shared.Denot
now g c =
    core_value g.C.ChipSet.rules c.access-entry.new.shared (slice_set c.self.inside.chips.items c.args.chip c.access-entry.new.chip)
    (slice_set c.self.inside.bounds.items c.args.chip c.bound_after.result) c.push_reserved.new.self.items (vec_capacity c.push_reserved.new.self)

enabled : (g : Over) (c : goal.After-push_reserved g) → IsEnabled g.C.ChipSet.rules (seen g.C.ChipSet.rules (before g c)) cycle_limit (Perform c.args.chip)
enabled g c = enabled-at g.C.ChipSet.rules (before g c) c.args.self.now cycle_limit (Perform c.args.chip) c.self.view_is c.requires.enabled

left : (g : Over) (c : goal.After-push_reserved g) → seen g.C.ChipSet.rules (now g c) ≡ after g.C.ChipSet.rules (seen g.C.ChipSet.rules (before g c)) (Perform c.args.chip)
left g c =
    held-performed g.C.ChipSet.rules (before g c) c.args.chip (enabled g c).1
    (omega (arith, c.requires.enabled.0, c.self.invariant.shape.chip_count)) (omega (arith, c.requires.enabled.0, c.self.invariant.shape.bound_count))
    c.index_mut-held.result.now (g.C.ChipSet.rules.perform c.index_mut-held.result.now c.self.inside.shared).chip c.access-entry.new.chip c.next-next.result c.bound_after.result c.access-entry.new.shared c.access-entry.result c.push_reserved.new.self.items (vec_capacity c.push_reserved.new.self)
    c.index_mut-held.ensures.value c.next-next.ensures.value c.access-entry.ensures.shared refl c.access-entry.ensures.entry c.access-entry.ensures.chip c.bound_after.ensures c.push_reserved.ensures.items

pub invariant_of-self : goal.invariant_of-self
invariant_of-self g c =
    core-after g.C.ChipSet.rules g.C.ChipSet.chip_ok g.C.ChipSet.shared_ok g.met.C.ChipSet.lawful
    (before g c) (now g c) c.self.invariant (Perform c.args.chip) (enabled g c)
    (length-set c.self.inside.chips.items c.args.chip c.access-entry.new.chip ∙ c.self.invariant.shape.chip_count)
    (length-set c.self.inside.bounds.items c.args.chip c.bound_after.result ∙ c.self.invariant.shape.bound_count)
    (left g c)

pub returns-clause-after : goal.returns-clause-after
returns-clause-after g c = at-value g.C.ChipSet.rules (before g c) c.args.self.now (now g c) (Perform c.args.chip) c.self.view_is (left g c)

pub returns-clause-stands : goal.returns-clause-stands
returns-clause-stands g c =
    stands-core g.C.ChipSet.rules g.C.ChipSet.chip_ok g.C.ChipSet.shared_ok g.met.C.ChipSet.lawful
    (before g c) c.args.self.now (now g c) c.self.view_is c.self.invariant (Perform c.args.chip) (left g c)
