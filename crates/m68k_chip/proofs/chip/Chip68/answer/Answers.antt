use Rattle.std.proofs.Common.{◌≡◌, ◌+◌, ap, ◌∙◌, refl}
use Rattle.std.specs.Arc.{arc_value}
use Rattle.m68k_chip.specs.Events.{answered}
use Rattle.m68k_chip.specs.Iterations.{sampling}
use Rattle.m68k_chip.specs.States.{state_of}
use Rattle.m68k_chip.specs.Validity.{Chip68Value}
use Rattle.m68k_chip.proofs.Kept.{after_answer}
use Rattle.m68k_chip.proofs.Iterations.{answers-again, reads-here, sampling-predicts, sampling-waits, stands-following}
use Rattle.m68k_chip.proofs.Laws.{of}
use Rattle.m68k_chip.proofs.chip.Chip68.answer.Goals as goal
use Rattle.m68k_chip.proofs.chip.Chip68.answer.Goals.{After-stand_after}

pub stand_after-requires : goal.stand_after-requires
stand_after-requires c =
    reads-here c.self.inside.iteration (arc_value c.self.inside.cart) c.self.inside.ram.value c.self.inside.sequencer c.self.inside.iteration.place _ _ c.self.invariant.2 (c.is_read_again.ensures.place c.if-is_read_again.true)

-- it is after the answer that is known
following : (c : After-stand_after) → state_of c.stand_after.new.self c.self.inside.ram.value ≡ sampling c.self.inside.ram.value c.self.inside.iteration.after (c.self.inside.sequencer.start + c.self.inside.iteration.first)
following c = c.stand_after.ensures.state c.self.inside.ram.value ∙ ap (λ n. sampling c.self.inside.ram.value c.self.inside.iteration.after (c.self.inside.sequencer.start + n)) c.from.ensures

comes : (c : After-stand_after) → state_of c.stand_after.new.self c.self.inside.ram.value ≡ answered (arc_value c.self.inside.cart) (state_of c.self.inside.sequencer c.self.inside.ram.value) c.args.answer
comes c =
    answers-again c.self.inside.iteration (arc_value c.self.inside.cart) (state_of c.self.inside.sequencer c.self.inside.ram.value) _ c.self.inside.iteration.place _ _ c.args.answer c.self.invariant.2
    (c.is_read_again.ensures.place c.if-is_read_again.true) (c.is_read_again.ensures.answer c.if-is_read_again.true) (following c)

pub invariant_of-self : goal.invariant_of-self
invariant_of-self c = (
  after_answer (arc_value c.self.inside.cart) (arc_value c.self.inside.cart) (state_of c.self.inside.sequencer c.self.inside.ram.value) _ _ _ _ c.args.answer c.self.view_is c.self.invariant.0.valid c.requires.asking c.requires.fits refl (comes c)
      (sampling-waits _ _ _ _ _ _ (following c)) (sampling-predicts _ _ _ _ _ _ (following c)),
  c.self.invariant.1,
  rw (c.stand_after.ensures.request, c.stand_after.ensures.predicted)
      (stands-following c.self.inside.iteration (arc_value c.self.inside.cart) (state_of c.self.inside.sequencer c.self.inside.ram.value) _ c.self.inside.iteration.place _ _ c.self.invariant.2 (c.is_read_again.ensures.place c.if-is_read_again.true) c.self.invariant.0.waiting c.self.invariant.0.predicts (following c)),
  c.self.invariant.3,
)

pub returns-then-is_read_again : goal.returns-then-is_read_again
returns-then-is_read_again c =
    ap (of (arc_value c.self.inside.cart)) (comes c) ∙ ap (λ (v : Chip68Value). of v.cart (answered v.cart v.state c.args.answer)) c.self.view_is
