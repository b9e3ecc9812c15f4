use Rattle.std.proofs.Common.{◌≡◌, ◌+◌, ap, subst, ◌∙◌}
use Rattle.std.specs.Arc.{arc_value}
use Rattle.m68k_chip.specs.Events.{WentAhead}
use Rattle.m68k_chip.specs.Iterations.{reading}
use Rattle.m68k_chip.specs.States.{next_of, state_of}
use Rattle.m68k_chip.specs.Validity.{Chip68Value}
use Rattle.m68k_chip.proofs.Iterations.{goes-round, held-again, no-sample, samples-here, stands-again}
use Rattle.m68k_chip.proofs.chip.Chip68.sample_ahead.Goals as goal
use Rattle.m68k_chip.proofs.chip.Chip68.sample_ahead.Goals.{After-read_again}

pub read_again-requires-clause-sampling : goal.read_again-requires-clause-sampling
read_again-requires-clause-sampling c =
    samples-here c.self.inside.iteration (arc_value c.self.inside.cart) c.self.inside.ram.value c.self.inside.sequencer c.self.inside.iteration.place _ _ c.self.invariant.2 (c.leads_back.ensures.place c.if-leads_back.true)

-- it is at the read again
again : (c : After-read_again) → state_of c.read_again.new.self c.self.inside.ram.value ≡ reading c.self.inside.ram.value c.self.inside.iteration.from (c.self.inside.sequencer.start + c.self.inside.iteration.rest)
again c = c.read_again.ensures.state c.self.inside.ram.value ∙ ap (λ n. reading c.self.inside.ram.value c.self.inside.iteration.from (c.self.inside.sequencer.start + n)) c.from.ensures

went : (c : After-read_again) → WentAhead c.self.inside.iteration.samples c.args.end (arc_value c.self.inside.cart) c.args.pins.level (state_of c.self.inside.sequencer c.self.inside.ram.value) (state_of c.read_again.new.self c.self.inside.ram.value)
went c =
    goes-round c.self.inside.iteration (arc_value c.self.inside.cart) (state_of c.self.inside.sequencer c.self.inside.ram.value) _ c.self.inside.iteration.place _ _ c.args.pins.level c.args.end c.self.invariant.2
    (c.leads_back.ensures.place c.if-leads_back.true) (c.leads_back.ensures.level c.if-leads_back.true) (c.leads_back.ensures.below c.if-leads_back.true) (again c)

pub invariant_of-self : goal.invariant_of-self
invariant_of-self c = (
  rw (c.read_again.ensures.request, c.read_again.ensures.predicted)
      (held-again c.self.inside.iteration (arc_value c.self.inside.cart) (state_of c.self.inside.sequencer c.self.inside.ram.value) _ c.self.inside.iteration.place _ _ c.args.pins.level c.args.end c.args.pins.known c.self.invariant.2
      (c.leads_back.ensures.place c.if-leads_back.true) c.self.invariant.0.valid (ap (λ (v : Chip68Value). (next_of v.state).sample) c.self.view_is ∙ c.requires.sampling) (went c) (again c)),
  c.self.invariant.1,
  stands-again c.self.inside.iteration (arc_value c.self.inside.cart) (state_of c.self.inside.sequencer c.self.inside.ram.value) _ c.self.inside.iteration.place _ _ c.self.invariant.2 (c.leads_back.ensures.place c.if-leads_back.true) (again c),
  c.self.invariant.3,
)

pub returns-then-leads_back-clause-state : goal.returns-then-leads_back-clause-state
returns-then-leads_back-clause-state c =
    subst (λ (v : Chip68Value). WentAhead c.self.inside.iteration.samples c.args.end v.cart c.args.pins.level v.state (state_of c.read_again.new.self c.self.inside.ram.value)) c.self.view_is (went c)

pub returns-then-leads_back-clause-all : goal.returns-then-leads_back-clause-all
returns-then-leads_back-clause-all c sample = absurd (no-sample _ _ _ _ (again c) sample)
