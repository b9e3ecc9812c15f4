use Rattle.std.proofs.Common.{ap}
use Rattle.md_word.specs.declared.event.Next.{Next}
use Rattle.bus_shared.specs.Board.{IsBoard}
use Rattle.md_chips.specs.Rules.{IsChip, five}
use Rattle.chip_core.proofs.Staying.{first-leaves, first-stays, first-wakes}
use Rattle.md_chips.proofs.set.access_once.Goals.{else-sleeper-number-via-then-sleeper-number+else-may_wake, else-sleeper-number-via-else-sleeper-number}
use Rattle.md_chips.proofs.set.access_once.Goals as goal

pub returns-then-may_wake-clause-stays : goal.returns-then-may_wake-clause-stays
returns-then-may_wake-clause-stays c =
    first-stays five c.args.number c.args.end.now c.args.chip.now c.access-entry.new.chip c.args.shared.now c.access-entry.new.shared c.args.journal.now.items c.push_reserved.new.self.items c.access-entry.result
    c.requires.access.kind c.requires.below c.access-entry.ensures.chip c.access-entry.ensures.shared c.access-entry.ensures.entry c.push_reserved.ensures.items

pub returns-then-may_wake-clause-pins : goal.returns-then-may_wake-clause-pins
returns-then-may_wake-clause-pins c ne =
    first-wakes five IsChip IsBoard c.args.number c.args.sleeper c.args.chip.now c.args.shared.now c.args.journal.now.items c.next.result.key (ap (λ (n : Next). n.key) c.next.ensures.value)

pub returns-else-sleeper-number-clause-stays : goal.returns-else-sleeper-number-clause-stays
returns-else-sleeper-number-clause-stays c =
    first-stays five c.args.number c.args.end.now c.args.chip.now c.access-entry.new.chip c.args.shared.now c.access-entry.new.shared c.args.journal.now.items c.push_reserved.new.self.items c.access-entry.result
    c.requires.access.kind c.requires.below c.access-entry.ensures.chip c.access-entry.ensures.shared c.access-entry.ensures.entry c.push_reserved.ensures.items

pub returns-else-sleeper-number-clause-pins : goal.returns-else-sleeper-number-clause-pins
returns-else-sleeper-number-clause-pins c ne =
    elim c.else-sleeper-number.branch [
      | else-sleeper-number-via-then-sleeper-number+else-may_wake w ↦ first-leaves five IsChip IsBoard c.args.number c.args.sleeper c.args.chip.now c.args.shared.now c.args.journal.now.items c.access-entry.result
          c.access-entry.ensures.entry (w.may_wake.ensures w.if-may_wake.false)
      | else-sleeper-number-via-else-sleeper-number w ↦ absurd (ne (search))
    ]
