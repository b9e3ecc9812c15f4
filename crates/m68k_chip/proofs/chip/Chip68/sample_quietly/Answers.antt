use Rattle.std.proofs.Common.{ℕ, List, ap, subst, sym, ◌∙◌}
use Rattle.std.specs.Arc.{arc_value}
use Rattle.std.proofs.lemmas.List.{nil_from_length}
use Rattle.arrayvec.specs.ArrayVec.{array_vec_len}
use Rattle.m68k_exec.specs.Sample.Caches.{IsCacheOf}
use Rattle.m68k_chip.specs.Iterations.{IsAside}
use Rattle.m68k_chip.specs.Validity.{Chip68Value}
use Rattle.m68k_chip.specs.States.{next_of, state_of}
use Rattle.m68k_chip.proofs.Kept.{after_sample}
use Rattle.m68k_chip.proofs.Iterations.{none-counted}
use Rattle.m68k_chip.proofs.Laws.{sample-between}
use Rattle.m68k_chip.proofs.chip.Chip68.sample_quietly.Goals as goal

pub begin-requires-clause-answers : goal.begin-requires-clause-answers
unfolding next_of
begin-requires-clause-answers c =
    (sample-between c.self.inside.sequencer.stage _ (state_of c.self.inside.sequencer c.self.inside.ram.value) (ap (λ (v : Chip68Value). (next_of v.state).sample) c.self.view_is ∙ c.requires.sampling) c.self.invariant.0.valid.stands).0.answers

pub begin-requires-clause-cache : goal.begin-requires-clause-cache
begin-requires-clause-cache c = subst (λ (image : List ℕ). IsCacheOf image c.self.inside.cache) (sym c.deref.ensures) c.self.invariant.1

pub invariant_of-self : goal.invariant_of-self
invariant_of-self c = (
  after_sample _ c.deref.result.now (state_of c.self.inside.sequencer c.self.inside.ram.value) _ _ _ _ c.args.pins.level c.args.pins.known c.self.view_is c.self.invariant.0.valid c.requires.sampling
      c.deref.ensures
      (rw c.deref_mut.ensures.value at c.begin.ensures.state) c.begin.ensures.waiting c.begin.ensures.predicted,
  subst (λ (image : List ℕ). IsCacheOf image c.begin.new.cache) c.deref.ensures c.begin.ensures.cache,
  tt,
  c.keep.ensures (arc_value c.self.inside.cart) c.deref_mut.result.now c.begin.new.ram (subst (IsAside c.self.inside.other (arc_value c.self.inside.cart)) (sym c.deref_mut.ensures.value) c.self.invariant.3)
      (λ quiet. c.begin.ensures.quiet (nil_from_length _ (none-counted (array_vec_len c.begin.new.progress.writes) (sym c.is_empty-quiet.ensures ∙ quiet)))),
)
