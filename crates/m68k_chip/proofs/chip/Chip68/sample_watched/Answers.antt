use Rattle.std.proofs.Common.{ℕ, List, refl, sym, ap, subst, ◌∙◌, arith}
use Rattle.m68k_chip.specs.Events.{begun}
use Rattle.md_word.specs.declared.event.Next.{Next}
use Rattle.m68k_chip.specs.Iterations.{HasWatched}
use Rattle.m68k_chip.specs.States.{next_of}
use Rattle.m68k_chip.specs.Validity.{Chip68Value}
use Rattle.m68k_chip.specs.declared.watched.Watched.{Watched}
use Rattle.m68k_chip.proofs.Ahead.{not-below}
use Rattle.m68k_chip.proofs.Iterations.{more-watched, one-watched}
use Rattle.m68k_chip.proofs.Laws.{begun-later}
use Rattle.m68k_chip.proofs.chip.Chip68.sample_watched.Goals as goal

pub loop-pins-init : goal.loop-pins-init
loop-pins-init c = record {
  watched = one-watched c.args.self.now.cart c.args.self.now.state c.args.pins.level c.args.end c.sample_quietly-quiet.new.self.state _ c.sample_quietly-quiet.result (ap (λ (v : Chip68Value). v.state) c.sample_quietly-quiet.ensures.chip) c.sample_quietly-quiet.ensures.quiet;
  cart = ap (λ (v : Chip68Value). v.cart) c.sample_quietly-quiet.ensures.chip;
  few = omega arith;
}

pub loop-pins-smaller : goal.loop-pins-smaller
loop-pins-smaller c =
    let test = c.loop-pins-test.ensures {u = tt} in
    let later = begun-later c.loop-pins.self c.args.pins.level test.valid (test.value.0 refl).0 in
    let next = ap (λ (v : Chip68Value). v.state.next) c.sample_quietly-quiet-in-loop-pins.ensures.chip in
    let low = (test.value.0 refl).1 in
    omega (arith, later, next, low)

pub loop-pins-preserved : goal.loop-pins-preserved
unfolding next_of
loop-pins-preserved c =
    let test = c.loop-pins-test.ensures {u = tt} in let found = test.value.0 refl in record {
      watched = subst (λ (w : Watched). HasWatched w c.args.end c.args.self.now.cart c.args.pins.level c.args.self.now.state c.sample_quietly-quiet-in-loop-pins.new.self.state) (sym c.add.ensures)
          (more-watched c.args.self.now.cart c.args.self.now.state c.args.pins.level c.args.end c.loop-pins.watched c.next-cycle.result.key.cycle _ c.loop-pins.self.state c.sample_quietly-quiet-in-loop-pins.new.self.state (ap (λ (n : Next). n.key.cycle) c.next-cycle.ensures.value) c.loop-pins.invariant.watched found.0 found.1
          (ap (λ (v : Chip68Value). v.state) c.sample_quietly-quiet-in-loop-pins.ensures.chip ∙ ap (λ (image : List ℕ). begun image c.loop-pins.self.state c.args.pins.level) c.loop-pins.invariant.cart)
          c.sample_quietly-quiet-in-loop-pins.ensures.quiet);
      cart = ap (λ (v : Chip68Value). v.cart) c.sample_quietly-quiet-in-loop-pins.ensures.chip ∙ c.loop-pins.invariant.cart;
      few = (let later = begun-later c.loop-pins.self c.args.pins.level test.valid found.0 in let next = ap (λ (v : Chip68Value). v.state.next) c.sample_quietly-quiet-in-loop-pins.ensures.chip in let before = c.loop-pins.invariant.few in omega (arith, later, next, before, ap (λ (w : Watched). w.samples) c.add.ensures));
    }

pub returns-clause-all : goal.returns-clause-all
returns-clause-all c sample = not-below c.loop-pins.self.state.next c.args.end (λ low. (c.loop-pins-test.ensures {u = tt}).value.1 (sample, low))
