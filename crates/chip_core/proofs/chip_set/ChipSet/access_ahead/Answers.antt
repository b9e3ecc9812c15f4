use Rattle.std.proofs.Common.{ap}
use Rattle.chip_core.proofs.Staying.{first-leaves, first-stays, first-wakes}
use Rattle.chip_core.proofs.chip_set.ChipSet.access_ahead.Goals.{else-sleeper-number-via-then-sleeper-number+else-wakes, else-sleeper-number-via-else-sleeper-number}
use Rattle.chip_core.proofs.chip_set.ChipSet.access_ahead.Goals as goal

pub returns-then-wakes-clause-stays : goal.returns-then-wakes-clause-stays
returns-then-wakes-clause-stays g c =
    first-stays g.Self.ChipSet.rules c.args.number c.args.end.now c.args.chip.now c.access-entry.new.chip c.args.shared.now c.access-entry.new.shared c.args.journal.now.items c.push_reserved.new.self.items c.access-entry.result
    c.requires.access.kind c.requires.below c.access-entry.ensures.chip c.access-entry.ensures.shared c.access-entry.ensures.entry c.push_reserved.ensures.items

pub returns-then-wakes-clause-pins : goal.returns-then-wakes-clause-pins
returns-then-wakes-clause-pins g c ne =
    first-wakes g.Self.ChipSet.rules g.Self.ChipSet.chip_ok g.Self.ChipSet.shared_ok c.args.number c.args.sleeper c.args.chip.now c.args.shared.now c.args.journal.now.items c.next.result.key (ap (λ n. n.key) c.next.ensures.value)

pub returns-else-sleeper-number-clause-stays : goal.returns-else-sleeper-number-clause-stays
returns-else-sleeper-number-clause-stays g c =
    first-stays g.Self.ChipSet.rules c.args.number c.args.end.now c.args.chip.now c.access-entry.new.chip c.args.shared.now c.access-entry.new.shared c.args.journal.now.items c.push_reserved.new.self.items c.access-entry.result
    c.requires.access.kind c.requires.below c.access-entry.ensures.chip c.access-entry.ensures.shared c.access-entry.ensures.entry c.push_reserved.ensures.items

pub returns-else-sleeper-number-clause-pins : goal.returns-else-sleeper-number-clause-pins
returns-else-sleeper-number-clause-pins g c ne =
    elim c.else-sleeper-number.branch [
      | else-sleeper-number-via-then-sleeper-number+else-wakes w ↦ first-leaves g.Self.ChipSet.rules g.Self.ChipSet.chip_ok g.Self.ChipSet.shared_ok c.args.number c.args.sleeper c.args.chip.now c.args.shared.now c.args.journal.now.items c.access-entry.result
          c.access-entry.ensures.entry (w.wakes.ensures w.if-wakes.false)
      | else-sleeper-number-via-else-sleeper-number w ↦ absurd (ne (search))
    ]
