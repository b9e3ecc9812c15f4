use Rattle.std.proofs.Common.{◌≡◌, sym, subst, arith}
use Rattle.chip_core.specs.Chips.{Rests}
use Rattle.z80_chip.specs.Events as events80
use Rattle.md_chips.specs.Pins.{pins_of}
use Rattle.md_chips.specs.Rules.{five}
use Rattle.md_chips.proofs.Resting.{sub-rests}
use Rattle.md_chips.proofs.set.MdChipsChipSet.rests.Goals as goal

pub returns-in-Sub-clause-rests : goal.returns-in-Sub-clause-rests
returns-in-Sub-clause-rests c found =
    let one : c.args.number ≡ 1 = omega (arith, c.if-number-ne1.false) in
    subst (λ n. Rests five (pins_of c.args.shared.now n) c.args.chip.now) (sym one)
    (subst (λ x. Rests five (pins_of c.args.shared.now 1) x) (sym c.in-Sub.is)
    (sub-rests c.in-Sub.sub c.args.shared.now (subst (λ p. events80.Rests c.in-Sub.sub.chip.cart c.in-Sub.sub.chip.state p) c.pins80.ensures (c.rests.ensures found))))
