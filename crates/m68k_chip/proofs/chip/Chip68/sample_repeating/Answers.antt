use Rattle.std.proofs.Common.{◌≡◌, ◌+◌, ◌<◌, ℕ, List, true, refl, sym, ap, subst, ◌∙◌, arith}
use Rattle.std.specs.Prelude.{◌&&◌}
use Rattle.m68k_chip.specs.Events.{SampledOn, begun}
use Rattle.m68k_chip.specs.Repetitions.{IsMarked}
use Rattle.m68k_chip.specs.States.{next_of}
use Rattle.m68k_chip.specs.Validity.{Chip68Value, IsChip68}
use Rattle.m68k_chip.specs.declared.repetition.Mark.{Mark}
use Rattle.m68k_chip.proofs.Ahead.{more-ahead, not-below}
use Rattle.m68k_chip.proofs.Laws.{begun-later}
use Rattle.m68k_chip.proofs.Repetitions.{marked-more, went-on}
use Rattle.m68k_chip.proofs.chip.Chip68.sample_repeating.Goals as goal

pub loop-pins-init : goal.loop-pins-init
loop-pins-init c = record {
  led = λ before went. went;
  cart = refl;
  marked = λ kept. absurd (let no_way = sym c.none-mark.ensures.kept ∙ kept in cc);
  early = (let cycle = c.none-mark.ensures.cycle in let samples = c.none-mark.ensures.samples in omega (arith, cycle, samples));
  least = omega arith;
  few = c.requires.few;
}

-- a sample goes on to a later event
passes : (old new : Chip68Value) (level : ℕ) → IsChip68 old → (next_of old.state).sample ≡ true → new ≡ record old { state = begun old.cart old.state level } → old.state.next < new.state.next
passes old new level ok kind is = let later = begun-later old level ok kind in let next = ap (λ (v : Chip68Value). v.state.next) is in omega (arith, later, next)

pub repeat-count-requires-clause-early : goal.repeat-count-requires-clause-early
repeat-count-requires-clause-early c =
    let test = c.loop-pins-test.ensures {u = tt} in
    let later = passes c.loop-pins.self c.sample_quietly-quiet.new.self c.args.pins.level test.valid (test.value.0 refl).0 c.sample_quietly-quiet.ensures.chip in
    let before = c.loop-pins.invariant.early in
    let cycle = ap (λ (m : Mark). m.cycle) c.add.ensures in
    let samples = ap (λ (m : Mark). m.samples) c.add.ensures in
    omega (arith, later, before, cycle, samples)

pub loop-pins-smaller : goal.loop-pins-smaller
loop-pins-smaller c =
    let test = c.loop-pins-test.ensures {u = tt} in
    let low = (test.value.0 refl).1 in
    let sampled = passes c.loop-pins.self c.sample_quietly-quiet.new.self c.args.pins.level test.valid (test.value.0 refl).0 c.sample_quietly-quiet.ensures.chip in
    let later = c.repeat-count.ensures.later in
    omega (arith, low, sampled, later)

pub loop-pins-preserved : goal.loop-pins-preserved
loop-pins-preserved c =
    let test = c.loop-pins-test.ensures {u = tt} in
    let found = test.value.0 refl in
    let sampled = passes c.loop-pins.self c.sample_quietly-quiet.new.self c.args.pins.level test.valid (test.value.0 refl).0 c.sample_quietly-quiet.ensures.chip in
    let same : c.sample_quietly-quiet.new.self.cart ≡ c.args.self.now.cart = ap (λ (v : Chip68Value). v.cart) c.sample_quietly-quiet.ensures.chip ∙ c.loop-pins.invariant.cart in
    let is : c.sample_quietly-quiet.new.self.state ≡ begun c.args.self.now.cart c.loop-pins.self.state c.args.pins.level =
    ap (λ (v : Chip68Value). v.state) c.sample_quietly-quiet.ensures.chip ∙ ap (λ (image : List ℕ). begun image c.loop-pins.self.state c.args.pins.level) c.loop-pins.invariant.cart in
    let marked : IsMarked c.add.new.self c.sample_quietly-quiet.new.self.cart c.args.pins.level c.sample_quietly-quiet.new.self.state =
    subst (λ (m : Mark). IsMarked m c.sample_quietly-quiet.new.self.cart c.args.pins.level c.sample_quietly-quiet.new.self.state) (sym c.add.ensures)
    (subst (λ (image : List ℕ). IsMarked (record c.loop-pins.mark { kept = c.loop-pins.mark.kept && c.sample_quietly-quiet.result; samples = c.loop-pins.mark.samples + 1 }) image c.args.pins.level c.sample_quietly-quiet.new.self.state) (sym same)
    (marked-more c.args.self.now.cart c.args.pins.level c.loop-pins.mark c.sample_quietly-quiet.result c.loop-pins.self.state c.sample_quietly-quiet.new.self.state c.loop-pins.invariant.marked found.0 sampled is c.sample_quietly-quiet.ensures.quiet)) in
    record {
      led = λ before went. went-on (c.loop-pins.count + 1) c.repeat-count.result c.args.end c.args.self.now.cart c.args.pins.level before c.sample_quietly-quiet.new.self.state c.repeat-count.new.self.state
          (more-ahead c.args.self.now.cart before c.args.pins.level c.args.end c.loop-pins.count c.loop-pins.self.state c.sample_quietly-quiet.new.self.state (c.loop-pins.invariant.led before went) found.0 found.1 is)
          (subst (λ (image : List ℕ). SampledOn c.repeat-count.result c.args.end image c.args.pins.level c.sample_quietly-quiet.new.self.state c.repeat-count.new.self.state) same (c.repeat-count.ensures.led c.args.pins.level marked));
      cart = c.repeat-count.ensures.cart ∙ same;
      marked = subst (λ (image : List ℕ). IsMarked c.repeat-count.new.mark image c.args.pins.level c.repeat-count.new.self.state) same (c.repeat-count.ensures.marked c.args.pins.level marked);
      early = c.repeat-count.ensures.early;
      least = let least = c.loop-pins.invariant.least in omega (arith, least);
      few = let few = c.loop-pins.invariant.few in let later = c.repeat-count.ensures.later in omega (arith, few, sampled, later);
    }

pub returns-clause-all : goal.returns-clause-all
returns-clause-all c sample = not-below c.loop-pins.self.state.next c.args.end (λ low. (c.loop-pins-test.ensures {u = tt}).value.1 (sample, low))
