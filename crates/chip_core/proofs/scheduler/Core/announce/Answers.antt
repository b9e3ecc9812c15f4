use Rattle.std.proofs.Common.{◌≡◌, slice_set, ap, ◌∙◌, arith, vec_capacity}
use Rattle.std.proofs.lemmas.List.{get_or_read}
use Rattle.chip_core.specs.Cores.{CoreValue, seen}
use Rattle.chip_core.specs.Events.{after}
use Rattle.chip_core.specs.declared.event.Event.TheVariants.{Announce}
use Rattle.chip_core.proofs.Lists.{announced-is, at-value, stands-core, core_value}
use Rattle.chip_core.proofs.scheduler.Core.announce.Given.{Over}
use Rattle.chip_core.proofs.scheduler.Core.announce.Goals as goal

-- the fields as they were, and as the code left them
abbrev before : (g : Over) → goal.After-self-1 g → CoreValue g.row.C-Chip.Denot g.row.C-Shared.Denot
before g c = core_value g.C.ChipSet.rules c.self.inside.shared c.self.inside.chips.items c.self.inside.bounds.items c.self.inside.journal.items (vec_capacity c.self.inside.journal)

abbrev now : (g : Over) → goal.After-self-1 g → CoreValue g.row.C-Chip.Denot g.row.C-Shared.Denot
now g c = record (before g c) { bounds = slice_set c.self.inside.bounds.items c.args.chip c.next-next.result.key }

left : (g : Over) (c : goal.After-self-1 g) → seen g.C.ChipSet.rules (now g c) ≡ after g.C.ChipSet.rules (seen g.C.ChipSet.rules (before g c)) (Announce c.args.chip)
left g c =
    announced-is g.C.ChipSet.rules c.self.inside.shared c.self.inside.chips.items c.self.inside.bounds.items c.self.inside.journal.items (vec_capacity c.self.inside.journal) c.args.chip c.next-next.result.key
    (omega (arith, c.requires.0, c.self.invariant.shape.bound_count))
    (ap (λ n. n.key) (c.next-next.ensures.value ∙ ap g.C.ChipSet.rules.next
    (get_or_read c.self.inside.chips.items c.args.chip c.index.result.now (omega (arith, c.requires.0, c.self.invariant.shape.chip_count)) c.index.ensures g.C.ChipSet.rules.blank)))

pub returns-clause-after : goal.returns-clause-after
returns-clause-after g c = at-value g.C.ChipSet.rules (before g c) c.args.self.now (now g c) (Announce c.args.chip) c.self.view_is (left g c)

pub returns-clause-stands : goal.returns-clause-stands
returns-clause-stands g c =
    stands-core g.C.ChipSet.rules g.C.ChipSet.chip_ok g.C.ChipSet.shared_ok g.met.C.ChipSet.lawful
    (before g c) c.args.self.now (now g c) c.self.view_is c.self.invariant (Announce c.args.chip) (left g c)
