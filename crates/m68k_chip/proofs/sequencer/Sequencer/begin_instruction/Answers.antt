use Rattle.std.proofs.Common.{ℕ, ◌+◌, ◌*◌, ◌∙◌, List, [], Some, ap, subst, sym}
use Rattle.md_word.specs.declared.regs.Regs.{Regs}
use Rattle.m68k_access.specs.Memory.{Memory, ram_after}
use Rattle.m68k_exec.specs.Sample.Private.{RunsPrivately}
use Rattle.m68k_exec.specs.Sample.Samples.{sampled}
use Rattle.m68k_exec.specs.declared.sample.step.Predicted.{Predicted}
use Rattle.m68k_exec.specs.declared.sample.step.PrivateStep.{PrivateStep}
use Rattle.m68k_exec.specs.declared.sample.step.PrivateStep.TheVariants.{Need}
use Rattle.m68k_chip.specs.Events.{asking, rested, went_on}
use Rattle.m68k_chip.specs.Held.{IsPredicted}
use Rattle.m68k_chip.specs.States.{State68, state_of}
use Rattle.m68k_chip.specs.Steps.{running}
use Rattle.m68k_chip.proofs.Private.{Ends, asked-predicted, asked-waits, private-asks, private-ends, private-predicted, private-waits}
use Rattle.m68k_chip.proofs.Waiting.{went-predicted, went-waits}
use Rattle.m68k_chip.proofs.sequencer.Sequencer.begin_instruction.Goals.{After-ask, After-finish_private}
use Rattle.m68k_chip.proofs.sequencer.Sequencer.begin_instruction.Goals as goal

-- ---- it ended

ended : (c : After-finish_private) → Ends c.args.cart.now (state_of c.args.self.now c.args.ram.now) c.in-Done.clocks c.run_private.new.regs c.run_private.new.progress.writes.items
ended c =
    let memory : Memory = record { rom = c.args.cart.now; ram = c.args.ram.now; answers = [] } in
    subst (λ (step : PrivateStep). RunsPrivately (Some step) c.run_private.new.predicted (sampled 0 c.args.self.now.regs) c.args.self.now.regs c.run_private.new.regs c.run_private.new.progress.writes.items memory)
    c.in-Done.is c.in-Some.ensures.value

pub returns-in-Done-clause-state : goal.returns-in-Done-clause-state
returns-in-Done-clause-state c =
    let before : State68 = state_of c.args.self.now c.args.ram.now in
    c.finish_private.ensures c.store_all.new.ram
    ∙ ap (λ (ram : List ℕ). rested (running (record before { regs = c.run_private.new.regs; ram = ram })) (before.start + 7 * c.in-Done.clocks))
    (c.store_all.ensures ∙ ap (λ (written : List (ℕ × ℕ)). ram_after c.args.ram.now written) c.as_slice.ensures.value)
    ∙ private-ends c.args.cart.now before c.in-Done.clocks c.run_private.new.regs c.run_private.new.progress.writes.items (ended c)

pub returns-in-Done-clause-waiting : goal.returns-in-Done-clause-waiting
returns-in-Done-clause-waiting c =
    private-waits c.args.cart.now (state_of c.args.self.now c.args.ram.now) _ c.in-Done.clocks c.run_private.new.regs c.run_private.new.progress.writes.items _ (ended c) (returns-in-Done-clause-state c)

pub returns-in-Done-clause-predicted : goal.returns-in-Done-clause-predicted
returns-in-Done-clause-predicted c =
    private-predicted c.args.cart.now (state_of c.args.self.now c.args.ram.now) _ c.in-Done.clocks c.run_private.new.regs c.run_private.new.progress.writes.items _ (ended c) (returns-in-Done-clause-state c)

-- ---- it waits

waits : (c : After-ask)
    → RunsPrivately (Some (Need c.in-Need.request)) c.run_private.new.predicted (sampled 0 c.args.self.now.regs) c.args.self.now.regs c.run_private.new.regs c.run_private.new.progress.writes.items (record { rom = c.args.cart.now; ram = c.args.ram.now; answers = [] })
waits c =
    let memory : Memory = record { rom = c.args.cart.now; ram = c.args.ram.now; answers = [] } in
    subst (λ (step : PrivateStep). RunsPrivately (Some step) c.run_private.new.predicted (sampled 0 c.args.self.now.regs) c.args.self.now.regs c.run_private.new.regs c.run_private.new.progress.writes.items memory)
    c.in-Need.is c.in-Some.ensures.value

pub returns-in-Need-clause-state : goal.returns-in-Need-clause-state
returns-in-Need-clause-state c =
    let before : State68 = state_of c.args.self.now c.args.ram.now in
    c.ask.ensures.state c.args.ram.now
    ∙ ap (λ (r : Regs). asking (record before { regs = r }) 0 c.args.self.now.answers.items) ((waits c).1)
    ∙ ap (λ (l : List ℕ). asking before 0 l) c.requires.answers
    ∙ private-asks c.args.cart.now before c.in-Need.request ((waits c).0.asks)

pub returns-in-Need-clause-waiting : goal.returns-in-Need-clause-waiting
returns-in-Need-clause-waiting c =
    asked-waits c.args.cart.now (state_of c.args.self.now c.args.ram.now) _ c.in-Need.request _ ((waits c).0.asks) c.ask.ensures.request (returns-in-Need-clause-state c)

pub returns-in-Need-clause-predicted : goal.returns-in-Need-clause-predicted
returns-in-Need-clause-predicted c =
    let came : State68 = state_of c.ask.new.self c.args.ram.now in
    subst (λ (predicted : Predicted). IsPredicted came.stage c.args.cart.now came predicted) (sym c.ask.ensures.predicted)
    (asked-predicted c.args.cart.now (state_of c.args.self.now c.args.ram.now) came c.in-Need.request c.run_private.new.predicted ((waits c).0) (returns-in-Need-clause-state c))

-- ---- it was not carried out

pub returns-in-None-clause-state : goal.returns-in-None-clause-state
returns-in-None-clause-state c =
    let before : State68 = state_of c.args.self.now c.args.ram.now in
    c.go_on.ensures.state
    ∙ ap (λ (r : Regs). went_on c.args.cart.now (record before { regs = r }) 0 c.args.self.now.answers.items) c.in-None.ensures.value
    ∙ ap (λ (l : List ℕ). went_on c.args.cart.now before 0 l) c.requires.answers

pub returns-in-None-clause-waiting : goal.returns-in-None-clause-waiting
returns-in-None-clause-waiting c = went-waits c.args.cart.now _ 0 _ _ _ c.go_on.ensures.state c.go_on.ensures.reported

pub returns-in-None-clause-predicted : goal.returns-in-None-clause-predicted
returns-in-None-clause-predicted c = went-predicted c.args.cart.now _ 0 _ _ _ c.go_on.ensures.state c.go_on.ensures.predicted_end
