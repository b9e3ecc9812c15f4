use Rattle.std.proofs.Common.{◌≡◌, ◌∙◌, Some, refl, ap, subst}
use Rattle.z80_exec.specs.Access.Memory.{Memory}
use Rattle.z80_exec.specs.Sample.Private.{RunsPrivately}
use Rattle.z80_exec.specs.Sample.Samples.{sampled}
use Rattle.z80_exec.specs.declared.regs80.Regs80.{Regs80}
use Rattle.z80_exec.specs.declared.sample.step.Step80.{Step80}
use Rattle.z80_exec.specs.declared.sample.step.Step80.TheVariants.{Need}
use Rattle.z80_parcel.specs.Parcels.{Store, store_of}
use Rattle.z80_chip.specs.Events.{asking}
use Rattle.z80_chip.specs.States.{State80, state_of}
use Rattle.z80_chip.proofs.Waiting.{asked-predicted, asked-waits}
use Rattle.z80_chip.proofs.sequencer.Sequencer.begin_instruction.Goals.{After-ask}
use Rattle.z80_chip.proofs.sequencer.Sequencer.begin_instruction.Goals as goal

abbrev before : After-ask → State80
before c = state_of c.args.self.now (Some c.in-Some.parcel)

abbrev memory : After-ask → Memory
memory c = record { rom = c.args.cart.now; ram = c.in-Some.parcel.ram.value; bank = c.in-Some.parcel.bank; answers = c.args.self.now.answers.items }

waits : (c : After-ask) → RunsPrivately (Some (Need c.in-Need.waiting)) c.run_private.new.predicted (sampled 0 c.args.self.now.regs) c.args.self.now.regs c.run_private.new.regs (store_of c.in-Some.parcel) (store_of c.run_private.new.parcel)
waits c =
    subst (λ (step : Step80). RunsPrivately (Some step) c.run_private.new.predicted (sampled 0 c.args.self.now.regs) c.args.self.now.regs c.run_private.new.regs (store_of c.in-Some.parcel) (store_of c.run_private.new.parcel))
    c.in-Need.is c.in-Some-run_private.ensures.value

-- where it waits the registers and RAM are as before
came : (c : After-ask) → state_of c.ask.new.self (Some c.run_private.new.parcel) ≡ asking (before c) 0
came c =
    c.ask.ensures.state (Some c.run_private.new.parcel)
    ∙ ap (λ (r : Regs80). asking (record (before c) { regs = r; store = Some (store_of c.run_private.new.parcel) }) 0) (waits c).1
    ∙ ap (λ (s : Store). asking (record (before c) { store = Some s }) 0) (waits c).2

pub returns-in-Need-clause-waiting : goal.returns-in-Need-clause-waiting
returns-in-Need-clause-waiting c =
    asked-waits c.args.cart.now (before c) _ 0 c.in-Need.waiting _ (came c) c.ask.ensures.request ((waits c).0.asks (memory c) refl c.requires.answers)

pub returns-in-Need-clause-predicted : goal.returns-in-Need-clause-predicted
returns-in-Need-clause-predicted c =
    asked-predicted c.args.cart.now (before c) _ 0 c.run_private.new.predicted _ (came c) c.ask.ensures.predicted ((waits c).0.ends (memory c) refl c.requires.answers)
