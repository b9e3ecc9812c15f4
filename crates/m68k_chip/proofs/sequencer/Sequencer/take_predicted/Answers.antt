use Rattle.std.proofs.Common.{◌≡◌, List, ℕ, [], ◌∙◌, ap, subst, sym, arith}
use Rattle.m68k_exec.specs.Sample.Prediction.{TakesClocks}
use Rattle.m68k_exec.specs.declared.sample.step.Predicted.{Predicted}
use Rattle.m68k_chip.specs.Events.{finished, with_started}
use Rattle.m68k_chip.specs.States.{State68, state_of}
use Rattle.m68k_chip.specs.Steps.{ended_by}
use Rattle.m68k_chip.proofs.Laws.{started-rest}
use Rattle.m68k_chip.proofs.Waiting.{ends-predicted, ends-predicted_end, ends-waits}
use Rattle.m68k_chip.proofs.sequencer.Sequencer.take_predicted.Goals as goal

pub end_predicted-requires-clause-start : goal.end_predicted-requires-clause-start
end_predicted-requires-clause-start c =
    omega (arith, c.requires.start, ap (λ (s : State68). s.start) (c.start_transfer.ensures.state []), (started-rest (state_of c.args.self.now []) c.args.answer.now.transfer).3)

pub end_predicted-requires-clause-clocks : goal.end_predicted-requires-clause-clocks
end_predicted-requires-clause-clocks c = subst (λ (f : Predicted). TakesClocks f) (sym c.start_transfer.ensures.predicted) c.requires.clocks

-- what was predicted comes
came : (c : goal.After-end_predicted) (ram : List ℕ) → state_of c.end_predicted.new.self ram ≡ finished (with_started (state_of c.args.self.now ram) c.args.answer.now.transfer) (ended_by c.args.self.now.predicted.finish c.args.self.now.predicted.regs [])
came c ram =
    let started : State68 = with_started (state_of c.args.self.now ram) c.args.answer.now.transfer in
    c.end_predicted.ensures ram
    ∙ ap (λ (s : State68). finished s (ended_by c.start_transfer.new.self.predicted.finish c.start_transfer.new.self.predicted.regs [])) (c.start_transfer.ensures.state ram)
    ∙ ap (λ (f : Predicted). finished started (ended_by f.finish f.regs [])) c.start_transfer.ensures.predicted

pub returns-clause-state : goal.returns-clause-state
returns-clause-state c = λ cart ram predicts.
    let old : State68 = state_of c.args.self.now ram in
    came c ram
    ∙ ends-predicted_end cart old c.args.answer.now.transfer old.cause old.answers c.args.answer.now.value c.args.self.now.predicted predicts c.requires.known

pub returns-clause-waiting : goal.returns-clause-waiting
returns-clause-waiting c = λ cart ram predicts.
    ends-waits cart (with_started (state_of c.args.self.now ram) c.args.answer.now.transfer) _ (ended_by c.args.self.now.predicted.finish c.args.self.now.predicted.regs []) c.end_predicted.new.self.request (came c ram)

pub returns-clause-predicted : goal.returns-clause-predicted
returns-clause-predicted c = λ cart ram predicts.
    ends-predicted cart (with_started (state_of c.args.self.now ram) c.args.answer.now.transfer) _ (ended_by c.args.self.now.predicted.finish c.args.self.now.predicted.regs []) c.end_predicted.new.self.predicted (came c ram)
