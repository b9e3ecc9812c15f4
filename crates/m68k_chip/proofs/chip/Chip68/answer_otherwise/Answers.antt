use Rattle.std.proofs.Common.{◌≡◌, ◌+◌, ap, ◌∙◌, refl}
use Rattle.std.specs.Arc.{arc_value}
use Rattle.m68k_chip.specs.Events.{answered}
use Rattle.m68k_chip.specs.Iterations.{IsOn, sampling}
use Rattle.m68k_chip.specs.declared.iteration.Iteration.{Iteration}
use Rattle.m68k_chip.specs.declared.iteration.Place.TheVariants.{AtRead}
use Rattle.m68k_chip.specs.States.{state_of}
use Rattle.m68k_chip.specs.Validity.{Chip68Value}
use Rattle.m68k_chip.proofs.Kept.{after_answer}
use Rattle.m68k_chip.proofs.Iterations.{answers-again, reads-here, sampling-predicts, sampling-waits, stands-following}
use Rattle.m68k_chip.proofs.Laws.{of}
use Rattle.m68k_chip.proofs.chip.Chip68.answer_otherwise.Goals as goal
use Rattle.m68k_chip.proofs.chip.Chip68.answer_otherwise.Goals.{After-stand_after}

pub stand_after-requires : goal.stand_after-requires
stand_after-requires c =
    reads-here c.self.inside.other (arc_value c.self.inside.cart) c.self.inside.ram.value c.self.inside.sequencer AtRead c.self.inside.sequencer.request c.self.inside.sequencer.predicted
    (c.self.invariant.3 (c.is_begun.ensures.place c.if-is_begun.true), c.is_begun.ensures.reading c.self.inside.ram.value c.if-is_begun.true, c.is_begun.ensures.late c.if-is_begun.true) refl

-- it is at the read of the other iteration
other : (c : After-stand_after) → IsOn AtRead c.self.inside.other (arc_value c.self.inside.cart) (state_of c.self.inside.sequencer c.self.inside.ram.value) c.self.inside.sequencer.request c.self.inside.sequencer.predicted
other c = (c.self.invariant.3 (c.is_begun.ensures.place c.if-is_begun.true), c.is_begun.ensures.reading c.self.inside.ram.value c.if-is_begun.true, c.is_begun.ensures.late c.if-is_begun.true)

-- it is after the answer that is known
following : (c : After-stand_after) → state_of c.stand_after.new.self c.self.inside.ram.value ≡ sampling c.self.inside.ram.value c.self.inside.other.after (c.self.inside.sequencer.start + c.self.inside.other.first)
following c =
    c.stand_after.ensures.state c.self.inside.ram.value
    ∙ ap (λ n. sampling c.self.inside.ram.value c.exchange.new.self.after (c.self.inside.sequencer.start + n)) c.from.ensures
    ∙ ap (λ (iteration : Iteration). sampling c.self.inside.ram.value iteration.after (c.self.inside.sequencer.start + iteration.first)) c.exchange.ensures.iteration

comes : (c : After-stand_after) → state_of c.stand_after.new.self c.self.inside.ram.value ≡ answered (arc_value c.self.inside.cart) (state_of c.self.inside.sequencer c.self.inside.ram.value) c.args.answer.now
comes c =
    answers-again c.self.inside.other (arc_value c.self.inside.cart) (state_of c.self.inside.sequencer c.self.inside.ram.value) _ AtRead c.self.inside.sequencer.request c.self.inside.sequencer.predicted c.args.answer.now (other c) refl (c.is_begun.ensures.answer c.if-is_begun.true) (following c)

pub invariant_of-self : goal.invariant_of-self
invariant_of-self c = (
  after_answer (arc_value c.self.inside.cart) (arc_value c.self.inside.cart) (state_of c.self.inside.sequencer c.self.inside.ram.value) _ _ _ _ c.args.answer.now c.self.view_is c.self.invariant.0.valid c.requires.asking c.requires.fits refl (comes c)
      (sampling-waits _ _ _ _ _ _ (following c)) (sampling-predicts _ _ _ _ _ _ (following c)),
  c.self.invariant.1,
  rw (c.stand_after.ensures.request, c.stand_after.ensures.predicted, c.exchange.ensures.iteration)
      (stands-following c.self.inside.other (arc_value c.self.inside.cart) (state_of c.self.inside.sequencer c.self.inside.ram.value) _ AtRead _ _ (other c) refl c.self.invariant.0.waiting c.self.invariant.0.predicts (following c)),
  c.exchange.ensures.other (arc_value c.self.inside.cart) (state_of c.self.inside.sequencer c.self.inside.ram.value) _ _ c.self.invariant.2,
)

pub returns-then-is_begun : goal.returns-then-is_begun
returns-then-is_begun c =
    ap (of (arc_value c.self.inside.cart)) (comes c) ∙ ap (λ (v : Chip68Value). of v.cart (answered v.cart v.state c.args.answer.now)) c.self.view_is
