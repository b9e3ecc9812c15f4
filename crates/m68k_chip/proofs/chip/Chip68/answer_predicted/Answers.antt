use Rattle.std.proofs.Common.{◌≡◌, ap, refl, subst, sym, ◌∙◌}
use Rattle.std.specs.Arc.{arc_value}
use Rattle.m68k_chip.specs.Events.{answered, answered_at}
use Rattle.m68k_chip.specs.Held.{IsPredicted}
use Rattle.m68k_chip.specs.States.{state_of}
use Rattle.m68k_chip.specs.Validity.{Chip68Value}
use Rattle.m68k_chip.specs.declared.stage.Stage.{Stage}
use Rattle.m68k_chip.specs.declared.stage.Stage.TheVariants.{Access}
use Rattle.m68k_chip.proofs.Iterations.{at-read}
use Rattle.m68k_chip.proofs.Kept.{after_answer}
use Rattle.m68k_chip.proofs.Laws.{of}
use Rattle.m68k_chip.proofs.chip.Chip68.answer_predicted.Goals as goal
use Rattle.m68k_chip.proofs.chip.Chip68.answer_predicted.Goals.{After-take_predicted}

pub take_predicted-requires-clause-clocks : goal.take_predicted-requires-clause-clocks
take_predicted-requires-clause-clocks c =
    (subst (λ (s : Stage). IsPredicted s (arc_value c.self.inside.cart) (state_of c.self.inside.sequencer c.self.inside.ram.value) c.self.inside.sequencer.predicted) (c.is_predicted.ensures.stage c.if-is_predicted.true) c.self.invariant.0.predicts
    (c.is_predicted.ensures.known c.if-is_predicted.true)).0

predicts : (c : After-take_predicted) → IsPredicted Access (arc_value c.self.inside.cart) (state_of c.self.inside.sequencer c.self.inside.ram.value) c.self.inside.sequencer.predicted
predicts c =
    subst (λ (s : Stage). IsPredicted s (arc_value c.self.inside.cart) (state_of c.self.inside.sequencer c.self.inside.ram.value) c.self.inside.sequencer.predicted) (c.is_predicted.ensures.stage c.if-is_predicted.true) c.self.invariant.0.predicts

comes : (c : After-take_predicted) → state_of c.take_predicted.new.self c.self.inside.ram.value ≡ answered (arc_value c.self.inside.cart) (state_of c.self.inside.sequencer c.self.inside.ram.value) c.args.answer.now
unfolding answered
comes c =
    c.take_predicted.ensures.state (arc_value c.self.inside.cart) c.self.inside.ram.value (predicts c)
    ∙ ap (λ (s : Stage). answered_at s (arc_value c.self.inside.cart) (state_of c.self.inside.sequencer c.self.inside.ram.value) c.args.answer.now) (sym (c.is_predicted.ensures.stage c.if-is_predicted.true))

pub invariant_of-self : goal.invariant_of-self
invariant_of-self c = (
  after_answer (arc_value c.self.inside.cart) (arc_value c.self.inside.cart) (state_of c.self.inside.sequencer c.self.inside.ram.value) _ _ _ _ c.args.answer.now c.self.view_is c.self.invariant.0.valid c.requires.asking c.requires.fits refl (comes c)
      (c.take_predicted.ensures.waiting (arc_value c.self.inside.cart) c.self.inside.ram.value (predicts c)) (c.take_predicted.ensures.predicted (arc_value c.self.inside.cart) c.self.inside.ram.value (predicts c)),
  c.self.invariant.1,
  c.leave.ensures (arc_value c.self.inside.cart) (state_of c.take_predicted.new.self c.self.inside.ram.value) _ _
      (λ at. (at-read c.self.inside.iteration (arc_value c.self.inside.cart) (state_of c.self.inside.sequencer c.self.inside.ram.value) c.self.inside.iteration.place c.self.inside.sequencer.request c.self.inside.sequencer.predicted c.self.invariant.2 at).0),
  c.self.invariant.3,
)

pub returns-then-is_predicted : goal.returns-then-is_predicted
returns-then-is_predicted c =
    ap (of (arc_value c.self.inside.cart)) (comes c) ∙ ap (λ (v : Chip68Value). of v.cart (answered v.cart v.state c.args.answer.now)) c.self.view_is
