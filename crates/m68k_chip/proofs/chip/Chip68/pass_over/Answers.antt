use Rattle.std.proofs.Common.{sym, ap, subst, ◌∙◌, arith}
use Rattle.std.specs.Arc.{arc_value}
use Rattle.m68k_chip.specs.Held.{IsPredicted, WaitsFor}
use Rattle.m68k_chip.specs.Validity.{Chip68Value, IsChip68}
use Rattle.m68k_chip.specs.States.{State68, next_of, state_of}
use Rattle.m68k_chip.proofs.Laws.{sample-between, of}
use Rattle.m68k_chip.proofs.Rested.{rested-valid}
use Rattle.m68k_chip.proofs.chip.Chip68.pass_over.Goals as goal

pub invariant_of-self : goal.invariant_of-self
unfolding next_of
invariant_of-self c =
    let old = state_of c.self.inside.sequencer c.self.inside.ram.value in
    let at = sample-between c.self.inside.sequencer.stage _ old (ap (λ (v : Chip68Value). (next_of v.state).sample) c.self.view_is ∙ ap (λ (s : State68). (next_of s).sample) c.requires.sampling) c.self.invariant.0.valid.stands in
    let later = c.pass_over.ensures.later in (
      record {
        valid = subst (λ (state : State68). IsChip68 (of (arc_value c.self.inside.cart) state)) (sym (c.pass_over.ensures.state c.self.inside.ram.value))
            (rested-valid _ old _ c.self.invariant.0.valid at.0 at.1 (omega (arith, later)));
        waiting = subst (λ (state : State68). WaitsFor state.stage (arc_value c.self.inside.cart) state c.pass_over.new.self.request) (sym (c.pass_over.ensures.state c.self.inside.ram.value)) tt;
        predicts = subst (λ (state : State68). IsPredicted state.stage (arc_value c.self.inside.cart) state c.pass_over.new.self.predicted) (sym (c.pass_over.ensures.state c.self.inside.ram.value)) tt;
      },
      c.self.invariant.1,
      tt,
      c.self.invariant.3,
    )
