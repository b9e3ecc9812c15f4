use Rattle.std.proofs.Common.{◌≡◌, ℕ, MatchOption, sym, ap, subst, ◌∙◌}
use Rattle.chip_core.specs.Staying.{LeavesAll, Wakes}
use Rattle.bus_shared.specs.Board.{IsBoard}
use Rattle.md_chips.specs.Rules.{IsChip, five}
use Rattle.md_chips.specs.declared.chips.Chip.{Chip}
use Rattle.md_chips.proofs.Staying.{main-number}
use Rattle.md_chips.proofs.set.MdChipsChipSet.access_ahead.Goals as goal

pub returns-in-Main-clause-pins : goal.returns-in-Main-clause-pins
returns-in-Main-clause-pins c ne =
    let zero : c.args.number ≡ 0 = sym c.requires.access.number ∙ ap (λ (x : Chip). (five.next x).key.chip) c.in-Main.is ∙ main-number c.in-Main.main in
    subst (λ (n : ℕ). MatchOption c.access_ahead.result.woke (LeavesAll five IsChip IsBoard c.access_ahead.result.events n c.args.sleeper (record { chip = c.args.chip.now; shared = c.args.shared.now; journal = c.args.journal.now.items }))
    (Wakes five IsChip IsBoard c.access_ahead.result.events n c.args.sleeper (record { chip = c.args.chip.now; shared = c.args.shared.now; journal = c.args.journal.now.items }))) (sym zero)
    (subst (λ (x : Chip). MatchOption c.access_ahead.result.woke (LeavesAll five IsChip IsBoard c.access_ahead.result.events 0 c.args.sleeper (record { chip = x; shared = c.args.shared.now; journal = c.args.journal.now.items }))
    (Wakes five IsChip IsBoard c.access_ahead.result.events 0 c.args.sleeper (record { chip = x; shared = c.args.shared.now; journal = c.args.journal.now.items }))) (sym c.in-Main.is)
    (c.access_ahead.ensures.pins (λ e. ne (e ∙ sym zero))))
