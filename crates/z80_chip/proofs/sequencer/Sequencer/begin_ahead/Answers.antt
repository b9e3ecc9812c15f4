use Rattle.std.proofs.Common.{sym, ap, ◌∙◌, arith}
use Rattle.md_word.proofs.Gaps.{reached}
use Rattle.z80_chip.specs.Cases.{is_rest}
use Rattle.z80_chip.specs.Events.{step}
use Rattle.z80_chip.specs.States.{State80, state_of}
use Rattle.z80_chip.proofs.Resting.{first-start, one-ahead, rested-ahead}
use Rattle.z80_chip.proofs.sequencer.Sequencer.begin_ahead.Goals as goal

pub rest_to-requires-clause-start : goal.rest_to-requires-clause-start
rest_to-requires-clause-start c =
    let start = ap (λ (state : State80). state.start) c.begin.ensures.state
    ∙ first-start c.args.cart.now (state_of c.args.self.now c.args.parcel.now) c.args.pins.now (ap is_rest (sym c.case_at.ensures.value) ∙ sym c.is_rest-rests.ensures ∙ c.if-rests.true) in
    let low = c.requires.start in
    omega (arith, start, low)

pub returns-then-rests-clause-state : goal.returns-then-rests-clause-state
returns-then-rests-clause-state c =
    rested-ahead c.args.cart.now (state_of c.args.self.now c.args.parcel.now) c.args.pins.now (ap is_rest (sym c.case_at.ensures.value) ∙ sym c.is_rest-rests.ensures ∙ c.if-rests.true) c.args.end (state_of c.begin.new.self c.begin.new.parcel) (state_of c.rest_to.new.self c.begin.new.parcel)
    c.begin.ensures.state (c.rest_to.ensures.state c.begin.new.parcel) c.rest_to.result c.rest_to.ensures.steps

pub returns-clause-state : goal.returns-clause-state
returns-clause-state c = one-ahead c.args.cart.now (state_of c.args.self.now c.args.parcel.now) c.args.pins.now c.args.end (state_of c.begin.new.self c.begin.new.parcel) c.begin.ensures.state

pub returns-then-rests-clause-all : goal.returns-then-rests-clause-all
returns-then-rests-clause-all c rest = reached step c.begin.new.self.start c.args.end c.rest_to.new.self.next (omega arith) (ap (λ (state : State80). state.next) (c.rest_to.ensures.state c.begin.new.parcel))

pub returns-clause-all : goal.returns-clause-all
returns-clause-all c rest = let invalid = sym c.if-rests.false ∙ c.is_rest-rests.ensures ∙ ap is_rest c.case_at.ensures.value ∙ rest in cc
