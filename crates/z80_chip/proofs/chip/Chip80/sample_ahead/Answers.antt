use Rattle.std.proofs.Common.{ℕ, List, refl, ap, ◌∙◌, arith}
use Rattle.z80_chip.specs.Events.{begun}
use Rattle.z80_chip.specs.Validity.{Chip80Value}
use Rattle.z80_chip.proofs.Ahead.{more-ahead}
use Rattle.z80_chip.proofs.Laws.{begun-later}
use Rattle.z80_chip.proofs.chip.Chip80.sample_ahead.Goals as goal

pub loop-self-smaller : goal.loop-self-smaller
loop-self-smaller c =
    let test = c.loop-self-test.ensures {u = tt} in
    let later = begun-later c.loop-self.self c.args.pins.now test.valid (test.value.0 refl).0 in
    let next = ap (λ (v : Chip80Value). v.state.next) c.sample.ensures in
    let low = (test.value.0 refl).1 in
    omega (arith, later, next, low)

pub loop-self-preserved : goal.loop-self-preserved
loop-self-preserved c =
    let test = c.loop-self-test.ensures {u = tt} in
    let found = test.value.0 refl in record {
      led = more-ahead c.args.self.now.cart c.args.self.now.state c.args.pins.now c.args.end c.loop-self.samples c.loop-self.self.state c.sample.new.self.state c.loop-self.invariant.led found.0 found.1
          (ap (λ (v : Chip80Value). v.state) c.sample.ensures ∙ ap (λ (image : List ℕ). begun image c.loop-self.self.state c.args.pins.now) c.loop-self.invariant.cart);
      all = λ rest. let late = c.loop-self.invariant.all rest in let low = found.1 in absurd (omega (arith, late, low));
      cart = ap (λ (v : Chip80Value). v.cart) c.sample.ensures ∙ c.loop-self.invariant.cart;
      few = (let later = begun-later c.loop-self.self c.args.pins.now test.valid found.0 in let next = ap (λ (v : Chip80Value). v.state.next) c.sample.ensures in let before = c.loop-self.invariant.few in omega (arith, later, next, before));
    }
