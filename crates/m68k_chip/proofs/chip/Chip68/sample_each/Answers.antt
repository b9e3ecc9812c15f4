use Rattle.std.proofs.Common.{◌≡◌, ℕ, List, refl, ap, ◌∙◌, arith}
use Rattle.m68k_chip.specs.Events.{begun}
use Rattle.m68k_chip.specs.Validity.{Chip68Value}
use Rattle.m68k_chip.proofs.Ahead.{more-ahead, not-below, one-ahead}
use Rattle.m68k_chip.proofs.Laws.{begun-later}
use Rattle.m68k_chip.proofs.chip.Chip68.sample_each.Goals as goal

pub loop-pins-init : goal.loop-pins-init
loop-pins-init c = record {
  led = one-ahead c.args.self.now.cart c.args.self.now.state c.args.pins.level c.args.end c.sample.new.self.state (ap (λ (v : Chip68Value). v.state) c.sample.ensures);
  cart = ap (λ (v : Chip68Value). v.cart) c.sample.ensures;
  few = omega arith;
}

-- a look changes nothing, so the sample is that of the chip before it
came : (old looked new : Chip68Value) (level : ℕ) → looked ≡ old → new ≡ record looked { state = begun looked.cart looked.state level } → new ≡ record old { state = begun old.cart old.state level }
came old looked new level same is = is ∙ ap (λ (v : Chip68Value). record v { state = begun v.cart v.state level }) same

pub loop-pins-smaller : goal.loop-pins-smaller
loop-pins-smaller c =
    let test = c.loop-pins-test.ensures {u = tt} in
    let later = begun-later c.loop-pins.self c.args.pins.level test.valid (test.value.0 refl).0 in
    let next = ap (λ (v : Chip68Value). v.state.next) (came c.loop-pins.self c.looks.new.self c.sample-in-loop-pins.new.self c.args.pins.level c.looks.ensures c.sample-in-loop-pins.ensures) in
    let low = (test.value.0 refl).1 in
    omega (arith, later, next, low)

pub loop-pins-preserved : goal.loop-pins-preserved
loop-pins-preserved c =
    let test = c.loop-pins-test.ensures {u = tt} in
    let found = test.value.0 refl in
    let is = came c.loop-pins.self c.looks.new.self c.sample-in-loop-pins.new.self c.args.pins.level c.looks.ensures c.sample-in-loop-pins.ensures in
    record {
      led = more-ahead c.args.self.now.cart c.args.self.now.state c.args.pins.level c.args.end c.loop-pins.samples c.loop-pins.self.state c.sample-in-loop-pins.new.self.state c.loop-pins.invariant.led found.0 found.1
          (ap (λ (v : Chip68Value). v.state) is ∙ ap (λ (image : List ℕ). begun image c.loop-pins.self.state c.args.pins.level) c.loop-pins.invariant.cart);
      cart = ap (λ (v : Chip68Value). v.cart) is ∙ c.loop-pins.invariant.cart;
      few = (let later = begun-later c.loop-pins.self c.args.pins.level test.valid found.0 in let next = ap (λ (v : Chip68Value). v.state.next) is in let before = c.loop-pins.invariant.few in omega (arith, later, next, before));
    }

pub returns-clause-all : goal.returns-clause-all
returns-clause-all c sample = not-below c.loop-pins.self.state.next c.args.end (λ low. (c.loop-pins-test.ensures {u = tt}).value.1 (sample, low))
