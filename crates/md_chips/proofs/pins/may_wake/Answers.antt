use Rattle.std.proofs.Common.{◌≡◌, sym, subst, ◌∙◌, arith}
use Rattle.bus_shared.specs.Board.{IsBoard}
use Rattle.chip_core.specs.Chips.{LeavesPins}
use Rattle.md_chips.specs.Rules.{IsChip, five}
use Rattle.md_chips.proofs.Resting.{leaves-sub-pins}
use Rattle.md_chips.proofs.pins.may_wake.Goals as goal

pub returns : goal.returns
returns c quiet =
    let one : c.args.number ≡ 1 = omega (arith, c.if-number-ne1.false) in
    subst (λ n. LeavesPins five IsChip IsBoard c.args.entry.now n) (sym one) (leaves-sub-pins c.args.entry.now (sym c.may_move_pins.ensures ∙ quiet))
