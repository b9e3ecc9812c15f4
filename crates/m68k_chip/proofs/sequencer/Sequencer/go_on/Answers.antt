use Rattle.std.proofs.Common.{◌∙◌, Result, ap, subst, sym}
use Rattle.md_word.specs.declared.regs.Regs.{Regs}
use Rattle.m68k_access.specs.Clauses.{done_of}
use Rattle.m68k_exec.specs.Sample.Prediction.{EndsPredicted}
use Rattle.m68k_exec.specs.Sample.Samples.{Ended, Keeps, sampled, reported_by}
use Rattle.m68k_access.specs.declared.stop.Stop.{Stop}
use Rattle.m68k_exec.specs.declared.sample.step.Predicted.{Predicted}
use Rattle.m68k_exec.specs.declared.sample.step.Step.{Step}
use Rattle.m68k_chip.specs.Events.{asking, came_to, went_on}
use Rattle.m68k_chip.specs.States.{State68, state_of}
use Rattle.m68k_chip.specs.Steps.{IsPredictedEnd}
use Rattle.m68k_chip.proofs.sequencer.Sequencer.go_on.Goals as goal

pub returns-in-Need-clause-state : goal.returns-in-Need-clause-state
unfolding went_on
returns-in-Need-clause-state c =
    let old : State68 = state_of c.args.self.now c.args.ram.now in
    c.ask.ensures.state c.args.ram.now
    ∙ ap (λ (r : Regs). asking (record old { regs = r }) c.args.cause c.args.self.now.answers.items)
    (subst (λ (step : Step). Keeps step c.args.self.now.regs c.predict_cached.new.regs) c.in-Need.is c.predict_cached.ensures.kept)
    ∙ ap (came_to old c.args.cause c.args.self.now.answers.items)
    (sym (ap (λ (step : Step). reported_by step c.predict_cached.new.regs (done_of c.predict_cached.new.progress)) c.in-Need.is) ∙ c.predict_cached.ensures.value)

pub returns-in-Need-clause-predicted_end : goal.returns-in-Need-clause-predicted_end
returns-in-Need-clause-predicted_end c =
    let is = sym (ap (λ (step : Step). reported_by step c.predict_cached.new.regs (done_of c.predict_cached.new.progress)) c.in-Need.is) ∙ c.predict_cached.ensures.value in
    subst (λ (f : Predicted). IsPredictedEnd (sampled c.args.cause c.args.self.now.regs (record { rom = c.args.cart.now; ram = c.args.ram.now; answers = c.args.self.now.answers.items })) f c.args.cart.now (state_of c.args.self.now c.args.ram.now) c.args.cause c.args.self.now.answers.items) (sym c.ask.ensures.predicted)
    (subst (λ (r : Result Ended Stop). IsPredictedEnd r c.predict_cached.new.predicted c.args.cart.now (state_of c.args.self.now c.args.ram.now) c.args.cause c.args.self.now.answers.items) is
    (subst (λ (step : Step). EndsPredicted step c.predict_cached.new.predicted (sampled c.args.cause c.args.self.now.regs) (record { rom = c.args.cart.now; ram = c.args.ram.now; answers = c.args.self.now.answers.items })) c.in-Need.is c.predict_cached.ensures.predicted))
