use Rattle.std.proofs.Common.{ℕ, List, [], ◌∷◌, ◌++◌, ◌∙◌, ap, arith}
use Rattle.m68k_chip.specs.Events.{went_on, with_started}
use Rattle.m68k_chip.specs.States.{State68, state_of}
use Rattle.m68k_chip.proofs.Laws.{started-rest}
use Rattle.m68k_chip.proofs.Waiting.{went-apart, went-predicted, went-waits}
use Rattle.m68k_chip.proofs.sequencer.Sequencer.take.Goals as goal

pub go_on-requires-clause-start : goal.go_on-requires-clause-start
go_on-requires-clause-start c =
    omega (arith, c.requires.start, ap (λ (s : State68). s.start) (c.start_transfer.ensures.state []), (started-rest (state_of c.args.self.now []) c.args.answer.now.transfer).3)

pub take_predicted-requires-clause-clocks : goal.take_predicted-requires-clause-clocks
take_predicted-requires-clause-clocks c = (c.requires.predicted c.if-self.true).0

pub returns-else-self-clause-state : goal.returns-else-self-clause-state
returns-else-self-clause-state c =
    let list : List ℕ = c.args.self.now.answers.items ++ c.args.answer.now.value ∷ [] in
    let old : State68 = state_of c.args.self.now c.args.ram.now in
    let found : State68 = state_of c.start_transfer.new.self c.args.ram.now in
    let started : State68 = with_started old c.args.answer.now.transfer in
    c.go_on.ensures.state
    ∙ ap (λ (l : List ℕ). went_on c.args.cart.now (record found { answers = l }) found.cause l)
    (c.push.ensures.items ∙ ap (λ (l : List ℕ). l ++ c.args.answer.now.value ∷ []) c.start_transfer.ensures.answers)
    ∙ went-apart c.args.cart.now found found.cause list list
    ∙ ap (λ (s : State68). went_on c.args.cart.now s s.cause list) (c.start_transfer.ensures.state c.args.ram.now)
    ∙ ap (λ (cause : ℕ). went_on c.args.cart.now started cause list) (started-rest old c.args.answer.now.transfer).4

pub returns-else-self-clause-waiting : goal.returns-else-self-clause-waiting
returns-else-self-clause-waiting c =
    went-waits c.args.cart.now _ _ _ _ _ c.go_on.ensures.state c.go_on.ensures.reported

pub returns-else-self-clause-predicted : goal.returns-else-self-clause-predicted
returns-else-self-clause-predicted c =
    went-predicted c.args.cart.now _ _ _ _ _ c.go_on.ensures.state c.go_on.ensures.predicted_end
