use Rattle.std.proofs.Common.{◌∙◌, ap, sym}
use Rattle.m68k_chip.specs.Cases.{cause_of}
use Rattle.m68k_chip.specs.Events.{begun, begun_with}
use Rattle.m68k_chip.specs.States.{state_of}
use Rattle.m68k_chip.specs.declared.case.Case.{Case}
use Rattle.m68k_chip.proofs.Waiting.{waited-predicted, waited-waits}
use Rattle.m68k_chip.proofs.sequencer.Sequencer.begin.Goals as goal

pub returns-in-None-clause-state : goal.returns-in-None-clause-state
unfolding begun
returns-in-None-clause-state c =
    c.wait.ensures c.args.ram.now
    ∙ ap (begun_with c.args.cart.now (state_of c.args.self.now c.args.ram.now))
    (sym c.in-None.is ∙ c.cause.ensures ∙ ap (λ (x : Case). cause_of x) (c.case_at.ensures c.args.ram.now))

pub returns-in-None-clause-waiting : goal.returns-in-None-clause-waiting
returns-in-None-clause-waiting c =
    waited-waits c.args.cart.now (state_of c.args.self.now c.args.ram.now) _ c.wait.new.self.request (c.wait.ensures c.args.ram.now)

pub returns-in-None-clause-predicted : goal.returns-in-None-clause-predicted
returns-in-None-clause-predicted c =
    waited-predicted c.args.cart.now (state_of c.args.self.now c.args.ram.now) _ c.wait.new.self.predicted (c.wait.ensures c.args.ram.now)
