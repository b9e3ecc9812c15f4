use Rattle.std.proofs.Common.{subst, sym}
use Rattle.chip_core.specs.Chips.{SamplesBelow, SamplesTo}
use Rattle.m68k_chip.specs.Events as events68
use Rattle.z80_chip.specs.Events.{WentAhead}
use Rattle.md_chips.specs.Rules.{five}
use Rattle.md_chips.specs.declared.chips.Chip.TheVariants.{Main, Sub}
use Rattle.md_chips.proofs.Ahead.{main_gone_ahead, sub_gone_ahead}
use Rattle.md_chips.proofs.set.MdChipsChipSet.sample_ahead.Goals as goal

pub returns-in-Main : goal.returns-in-Main
returns-in-Main c =
    subst (λ x. SamplesTo five c.sample_ahead.result c.args.end.now c.args.pins.now x (Main c.sample_ahead.new.self)) (sym c.in-Main.is)
    (main_gone_ahead c.sample_ahead.result c.args.end.now c.args.pins.now c.in-Main.main c.sample_ahead.new.self (subst (λ x. SamplesBelow five c.args.end.now x) c.in-Main.is c.requires.sample)
    (subst (λ level. events68.WentAhead c.sample_ahead.result c.args.end.now.cycle c.in-Main.main.chip.cart level c.in-Main.main.chip.state c.sample_ahead.new.self.chip.state) c.main.ensures c.sample_ahead.ensures.state)
    c.sample_ahead.ensures.cart c.sample_ahead.ensures.answer)

pub returns-in-Sub : goal.returns-in-Sub
returns-in-Sub c =
    subst (λ x. SamplesTo five c.sample_ahead-in-Sub.result c.args.end.now c.args.pins.now x (Sub c.sample_ahead-in-Sub.new.self)) (sym c.in-Sub.is)
    (sub_gone_ahead c.sample_ahead-in-Sub.result c.args.end.now c.args.pins.now c.in-Sub.sub c.sample_ahead-in-Sub.new.self (subst (λ x. SamplesBelow five c.args.end.now x) c.in-Sub.is c.requires.sample)
    (subst (λ p. WentAhead c.sample_ahead-in-Sub.result c.args.end.now.cycle c.in-Sub.sub.chip.cart p c.in-Sub.sub.chip.state c.sample_ahead-in-Sub.new.self.chip.state) c.sub.ensures c.sample_ahead-in-Sub.ensures.state)
    c.sample_ahead-in-Sub.ensures.cart c.sample_ahead-in-Sub.ensures.answer)
