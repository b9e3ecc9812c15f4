use Rattle.std.proofs.Common.{◌+◌, ◌*◌, sym, ap, subst, ◌∙◌, arith}
use Rattle.std.specs.Arc.{arc_value}
use Rattle.md_word.specs.Clock.{gaps_to}
use Rattle.md_word.proofs.Gaps.{reached}
use Rattle.m68k_chip.specs.Events.{at_sample, step}
use Rattle.m68k_chip.specs.Held.{IsPredicted, WaitsFor}
use Rattle.m68k_chip.specs.Validity.{Chip68Value, IsChip68}
use Rattle.m68k_chip.specs.States.{State68, next_of, state_of}
use Rattle.m68k_chip.proofs.Laws.{sample-between, of}
use Rattle.m68k_chip.proofs.Rested.{rested-ahead, rested-valid}
use Rattle.m68k_chip.proofs.chip.Chip68.rest_ahead.Goals as goal

pub invariant_of-self : goal.invariant_of-self
unfolding next_of
invariant_of-self c =
    let old = state_of c.self.inside.sequencer c.self.inside.ram.value in
    let at = sample-between c.self.inside.sequencer.stage _ old (ap (λ (v : Chip68Value). (next_of v.state).sample) c.self.view_is ∙ c.requires.sampling) c.self.invariant.0.valid.stands in
    let start = at.0.start in (
      record {
        valid = subst (λ (state : State68). IsChip68 (of (arc_value c.self.inside.cart) state)) (sym (c.rest_ahead.ensures.state c.self.inside.ram.value))
            (rested-valid _ old _ c.self.invariant.0.valid at.0 at.1 (omega (arith, start)));
        waiting = subst (λ (state : State68). WaitsFor state.stage (arc_value c.self.inside.cart) state c.rest_ahead.new.self.request) (sym (c.rest_ahead.ensures.state c.self.inside.ram.value)) tt;
        predicts = subst (λ (state : State68). IsPredicted state.stage (arc_value c.self.inside.cart) state c.rest_ahead.new.self.predicted) (sym (c.rest_ahead.ensures.state c.self.inside.ram.value)) tt;
      },
      c.self.invariant.1,
      tt,
      c.self.invariant.3,
    )

pub returns-clause-state : goal.returns-clause-state
returns-clause-state c =
    rested-ahead c.args.self.now.cart c.args.self.now.state c.args.pins.level c.requires.rest c.args.end c.rest_ahead.result _
    (c.rest_ahead.ensures.samples ∙ ap (λ (v : Chip68Value). 1 + gaps_to step (v.state.start + step) c.args.end) c.self.view_is)
    (c.rest_ahead.ensures.state c.self.inside.ram.value
    ∙ ap (λ (v : Chip68Value). at_sample v.state (v.state.start + step + step * gaps_to step (v.state.start + step) c.args.end)) c.self.view_is)

pub returns-clause-all : goal.returns-clause-all
returns-clause-all c sample =
    reached step (c.self.inside.sequencer.start + step) c.args.end c.rest_ahead.new.self.next (omega arith) (ap (λ (state : State68). state.next) (c.rest_ahead.ensures.state c.self.inside.ram.value))
