use Rattle.std.proofs.Common.{ℕ, List, subst, sym, ap, ◌∙◌}
use Rattle.std.proofs.lemmas.List.{nil_from_length}
use Rattle.std.specs.Arc.{arc_value}
use Rattle.arrayvec.specs.ArrayVec.{array_vec_len}
use Rattle.m68k_exec.specs.Sample.Caches.{IsCacheOf}
use Rattle.m68k_chip.specs.Iterations.{IsAside, IsIteration, IsOn}
use Rattle.m68k_chip.specs.States.{state_of}
use Rattle.m68k_chip.specs.declared.iteration.Iteration.{Iteration}
use Rattle.m68k_chip.proofs.Kept.{after_answer}
use Rattle.m68k_chip.proofs.Iterations.{at-read, none-counted, read-taken}
use Rattle.m68k_chip.proofs.Laws.{few-answers}
use Rattle.m68k_chip.proofs.chip.Chip68.answer_again.Goals as goal

pub answer-requires-clause-few : goal.answer-requires-clause-few
answer-requires-clause-few c = few-answers _ c.self.invariant.0.valid

pub answer-requires-clause-cache : goal.answer-requires-clause-cache
answer-requires-clause-cache c = subst (λ (image : List ℕ). IsCacheOf image c.self.inside.cache) (sym c.deref.ensures) c.self.invariant.1

pub invariant_of-self : goal.invariant_of-self
invariant_of-self c = (
  after_answer _ c.deref.result.now (state_of c.self.inside.sequencer c.self.inside.ram.value) _ _ _ _ c.args.answer.now c.self.view_is c.self.invariant.0.valid c.requires.asking c.requires.fits
      c.deref.ensures
      (rw c.deref_mut.ensures.value at c.answer.ensures.state) c.answer.ensures.waiting c.answer.ensures.predicted,
  subst (λ (image : List ℕ). IsCacheOf image c.answer.new.cache) c.deref.ensures c.answer.ensures.cache,
  c.take.ensures (arc_value c.self.inside.cart) c.deref_mut.result.now c.answer.new.ram
      (λ begins quiet. read-taken (arc_value c.self.inside.cart) c.deref.result.now c.deref_mut.result.now c.answer.new.ram (state_of c.self.inside.sequencer c.deref_mut.result.now) _ _ _ _ c.args.answer.now c.deref.ensures
      (c.begins-begins.ensures.reading c.deref_mut.result.now begins) (c.begins-begins.ensures.answer begins) c.answer.ensures.state
      (c.answer.ensures.quiet (nil_from_length _ (none-counted (array_vec_len c.answer.new.progress.writes) (sym c.is_empty-quiet.ensures ∙ quiet)))))
      (λ at. let same = c.begins-begins.ensures.at_read at in
      subst (λ (iteration : Iteration). IsIteration iteration (arc_value c.self.inside.cart) c.deref_mut.result.now) (sym same)
      (subst (IsIteration c.self.inside.iteration (arc_value c.self.inside.cart)) (sym c.deref_mut.ensures.value)
      (at-read c.self.inside.iteration (arc_value c.self.inside.cart) (state_of c.self.inside.sequencer c.self.inside.ram.value) c.self.inside.iteration.place c.self.inside.sequencer.request c.self.inside.sequencer.predicted c.self.invariant.2
      (sym (ap (λ (iteration : Iteration). iteration.place) same) ∙ at)).0))
      (λ quiet. c.answer.ensures.quiet (nil_from_length _ (none-counted (array_vec_len c.answer.new.progress.writes) (sym c.is_empty-quiet.ensures ∙ quiet)))),
  c.keep.ensures (arc_value c.self.inside.cart) c.deref_mut.result.now c.answer.new.ram
      (c.begins-begins.ensures.other (arc_value c.self.inside.cart) (state_of c.self.inside.sequencer c.deref_mut.result.now) c.self.inside.sequencer.request c.self.inside.sequencer.predicted
      (subst (λ (ram : List ℕ). IsOn c.self.inside.iteration.place c.self.inside.iteration (arc_value c.self.inside.cart) (state_of c.self.inside.sequencer ram) c.self.inside.sequencer.request c.self.inside.sequencer.predicted) (sym c.deref_mut.ensures.value) c.self.invariant.2)
      (subst (IsAside c.self.inside.other (arc_value c.self.inside.cart)) (sym c.deref_mut.ensures.value) c.self.invariant.3))
      (λ quiet. c.answer.ensures.quiet (nil_from_length _ (none-counted (array_vec_len c.answer.new.progress.writes) (sym c.is_empty-quiet.ensures ∙ quiet)))),
)
