use Rattle.std.proofs.Common.{◌≡◌, ◌+◌, false, sym, ap, subst, ◌∙◌, arith}
use Rattle.std.specs.Arc.{arc_value}
use Rattle.m68k_chip.specs.Events.{SampledOn, answered, request_of}
use Rattle.m68k_chip.specs.Iterations.{reading}
use Rattle.m68k_chip.specs.States.{State68, next_of, state_of}
use Rattle.m68k_chip.specs.Validity.{Chip68Value, Fits, IsChip68}
use Rattle.m68k_chip.proofs.Iterations.{at-read, no-sample}
use Rattle.m68k_chip.proofs.Laws.{of}
use Rattle.m68k_chip.proofs.Rounds.{answered-on-later, gone-round, held-round, reads-again}
use Rattle.m68k_chip.proofs.chip.Chip68.answer_ahead.Goals as goal
use Rattle.m68k_chip.proofs.chip.Chip68.answer_ahead.Goals.{After-read_later}

-- it is at the read again
again : (c : After-read_later) → state_of c.read_later.new.self c.self.inside.ram.value ≡ reading c.self.inside.ram.value c.self.inside.iteration.from (c.self.inside.sequencer.start + c.self.inside.iteration.first + c.self.inside.iteration.rest)
again c =
    let at = at-read c.self.inside.iteration (arc_value c.self.inside.cart) (state_of c.self.inside.sequencer c.self.inside.ram.value) c.self.inside.iteration.place _ _ c.self.invariant.2 (c.goes_round.ensures.place c.if-goes_round.true) in
    c.read_later.ensures.state c.self.inside.ram.value
    ∙ ap (λ n. reading c.self.inside.ram.value c.self.inside.sequencer.regs (c.self.inside.sequencer.start + n + c.from-then-goes_round.result)) c.from.ensures
    ∙ ap (λ n. reading c.self.inside.ram.value c.self.inside.sequencer.regs (c.self.inside.sequencer.start + c.self.inside.iteration.first + n)) c.from-then-goes_round.ensures
    ∙ ap (λ (s : State68). reading c.self.inside.ram.value s.regs (c.self.inside.sequencer.start + c.self.inside.iteration.first + c.self.inside.iteration.rest)) at.1

went : (c : After-read_later) → SampledOn c.self.inside.iteration.samples c.args.end (arc_value c.self.inside.cart) c.args.pins.level (answered (arc_value c.self.inside.cart) (state_of c.self.inside.sequencer c.self.inside.ram.value) c.args.answer) (state_of c.read_later.new.self c.self.inside.ram.value)
went c =
    gone-round c.self.inside.iteration (arc_value c.self.inside.cart) (state_of c.self.inside.sequencer c.self.inside.ram.value) _ c.self.inside.iteration.place _ _ c.args.answer c.args.pins.level c.args.end c.self.invariant.2
    (c.goes_round.ensures.place c.if-goes_round.true) (c.goes_round.ensures.answer c.if-goes_round.true) (c.goes_round.ensures.level c.if-goes_round.true) (c.goes_round.ensures.below c.if-goes_round.true) (again c)

asks : (c : After-read_later) → (next_of (state_of c.self.inside.sequencer c.self.inside.ram.value)).sample ≡ false
asks c = ap (λ (v : Chip68Value). (next_of v.state).sample) c.self.view_is ∙ c.requires.asking

fits : (c : After-read_later) → Fits (request_of (arc_value c.self.inside.cart) (state_of c.self.inside.sequencer c.self.inside.ram.value)) c.args.answer
fits c = subst (λ (v : Chip68Value). Fits (request_of v.cart v.state) c.args.answer) (sym c.self.view_is) c.requires.fits

pub invariant_of-self : goal.invariant_of-self
invariant_of-self c =
    let place = c.goes_round.ensures.place c.if-goes_round.true in
    let there = again c ∙ ap (reading c.self.inside.ram.value c.self.inside.iteration.from) (let e : c.self.inside.sequencer.start + c.self.inside.iteration.first + c.self.inside.iteration.rest ≡ c.self.inside.sequencer.start + (c.self.inside.iteration.first + c.self.inside.iteration.rest) = omega arith in e) in (
      rw (c.read_later.ensures.request, c.read_later.ensures.predicted)
          (held-round c.self.inside.iteration (arc_value c.self.inside.cart) (state_of c.self.inside.sequencer c.self.inside.ram.value) _ c.self.inside.iteration.place c.self.inside.sequencer.request c.self.inside.sequencer.predicted c.args.answer c.args.pins.level c.args.end c.self.inside.iteration.samples c.args.pins.known c.self.invariant.2
          place c.self.invariant.0 (asks c) (fits c) (went c) (c.self.inside.iteration.first + c.self.inside.iteration.rest) there),
      c.self.invariant.1,
      rw (c.read_later.ensures.request, c.read_later.ensures.predicted)
          (reads-again c.self.inside.iteration (arc_value c.self.inside.cart) (state_of c.self.inside.sequencer c.self.inside.ram.value) _ c.self.inside.iteration.place c.self.inside.sequencer.request c.self.inside.sequencer.predicted (c.self.inside.iteration.first + c.self.inside.iteration.rest) c.self.invariant.2 place there),
      c.self.invariant.3,
    )

pub returns-then-goes_round-clause-state : goal.returns-then-goes_round-clause-state
returns-then-goes_round-clause-state c =
    subst (λ (v : Chip68Value). SampledOn c.self.inside.iteration.samples c.args.end v.cart c.args.pins.level (answered v.cart v.state c.args.answer) (state_of c.read_later.new.self c.self.inside.ram.value)) c.self.view_is (went c)

pub returns-then-goes_round-clause-all : goal.returns-then-goes_round-clause-all
returns-then-goes_round-clause-all c sample = absurd (no-sample _ _ _ _ (again c) sample)

pub returns-then-goes_round-clause-later : goal.returns-then-goes_round-clause-later
returns-then-goes_round-clause-later c =
    let late = answered-on-later (of (arc_value c.self.inside.cart) (state_of c.self.inside.sequencer c.self.inside.ram.value)) c.args.answer c.args.pins.level c.args.end c.self.inside.iteration.samples (state_of c.read_later.new.self c.self.inside.ram.value)
    c.args.pins.known c.self.invariant.0.valid (asks c) (fits c) (went c) in
    let same = ap (λ (v : Chip68Value). v.state.next) c.self.view_is in
    omega (arith, late, same)

pub returns-else-goes_round-clause-later : goal.returns-else-goes_round-clause-later
returns-else-goes_round-clause-later c =
    answered-on-later c.args.self.now c.args.answer c.args.pins.level c.args.end c.sample_on.result c.sample_on.new.self.state c.args.pins.known
    (subst (λ (v : Chip68Value). IsChip68 v) c.self.view_is c.self.invariant.0.valid) c.requires.asking c.requires.fits
    (subst (λ (v : Chip68Value). SampledOn c.sample_on.result c.args.end v.cart c.args.pins.level v.state c.sample_on.new.self.state) c.answer.ensures c.sample_on.ensures.state)
