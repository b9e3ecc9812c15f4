use Rattle.std.proofs.Common.{◌≡◌, ◌∙◌, ℕ, List, Err, ap, subst, sym, Some}
use Rattle.z80_exec.specs.Access.Clauses.{done_of, request_of}
use Rattle.z80_exec.specs.Sample.Prediction.{EndsPredicted}
use Rattle.z80_exec.specs.Sample.Samples.{CoversAccesses, Keeps, reported_by, sampled}
use Rattle.z80_exec.specs.declared.regs80.Regs80.{Regs80}
use Rattle.z80_exec.specs.declared.sample.step.Step80.{Step80}
use Rattle.z80_parcel.specs.Parcels.{Store, bank_after, ram_after, store_of, written}
use Rattle.z80_chip.specs.Events.{asking, came_to, carried_out, ended_at, went_on}
use Rattle.z80_chip.specs.States.{State80, state_of}
use Rattle.z80_chip.proofs.Waiting.{asked-predicted, asked-waits}
use Rattle.z80_chip.proofs.sequencer.Sequencer.go_on.Goals as goal

-- where it waits the registers are as before
came : (c : goal.After-ask) → state_of c.ask.new.self (Some c.args.parcel.now) ≡ asking (state_of c.args.self.now (Some c.args.parcel.now)) c.args.cause
came c =
    let old : State80 = state_of c.args.self.now (Some c.args.parcel.now) in
    c.ask.ensures.state (Some c.args.parcel.now)
    ∙ ap (λ (r : Regs80). asking (record old { regs = r }) c.args.cause)
    (subst (λ (step : Step80). Keeps step c.args.self.now.regs c.predict.new.regs) c.in-Need.is c.predict.ensures.kept)

asks : (c : goal.After-ask) → carried_out c.args.cart.now (state_of c.args.self.now (Some c.args.parcel.now)) c.args.cause ≡ Err (request_of c.in-Need.waiting)
asks c = sym (sym (ap (λ (step : Step80). reported_by step c.predict.new.regs (done_of c.predict.new.progress)) c.in-Need.is) ∙ c.predict.ensures.value)

pub returns-in-Need-clause-state : goal.returns-in-Need-clause-state
unfolding went_on
returns-in-Need-clause-state c =
    came c ∙ sym (ap (came_to (state_of c.args.self.now (Some c.args.parcel.now)) c.args.cause) (asks c))

pub returns-in-Need-clause-waiting : goal.returns-in-Need-clause-waiting
returns-in-Need-clause-waiting c =
    asked-waits c.args.cart.now (state_of c.args.self.now (Some c.args.parcel.now)) _ c.args.cause c.in-Need.waiting _ (came c) c.ask.ensures.request (asks c)

pub returns-in-Need-clause-predicted : goal.returns-in-Need-clause-predicted
returns-in-Need-clause-predicted c =
    asked-predicted c.args.cart.now (state_of c.args.self.now (Some c.args.parcel.now)) _ c.args.cause c.predict.new.predicted _ (came c) c.ask.ensures.predicted
    (subst (λ (step : Step80). EndsPredicted step c.predict.new.predicted (sampled c.args.cause c.args.self.now.regs) (record { rom = c.args.cart.now; ram = c.args.parcel.now.ram.value; bank = c.args.parcel.now.bank; answers = c.args.self.now.answers.items }))
    c.in-Need.is c.predict.ensures.predicted)

pub finish-requires-clause-t : goal.finish-requires-clause-t
finish-requires-clause-t c =
    (subst (λ (step : Step80). CoversAccesses step c.predict.new.progress.used) c.in-Done.is c.predict.ensures.covers).1

pub returns-in-Done-clause-state : goal.returns-in-Done-clause-state
unfolding went_on
returns-in-Done-clause-state c =
    let old : State80 = state_of c.args.self.now (Some c.args.parcel.now) in
    let writes : List (ℕ × ℕ) = c.predict.new.progress.writes.items in
    let ram : c.store_bytes.new.parcel.ram.value ≡ ram_after c.args.parcel.now.ram.value writes =
    c.store_bytes.ensures.ram ∙ ap (ram_after c.args.parcel.now.ram.value) c.as_slice.ensures.value in
    let bank : c.store_bytes.new.parcel.bank ≡ bank_after c.args.parcel.now.bank writes =
    c.store_bytes.ensures.bank ∙ ap (bank_after c.args.parcel.now.bank) c.as_slice.ensures.value in
    let stored : store_of c.store_bytes.new.parcel ≡ written writes (store_of c.args.parcel.now) =
    ap (λ (l : List ℕ). record { ram = l; bank = c.store_bytes.new.parcel.bank }) ram
    ∙ ap (λ (n : ℕ). record { ram = ram_after c.args.parcel.now.ram.value writes; bank = n }) bank in
    c.finish.ensures.state (Some c.store_bytes.new.parcel)
    ∙ ap (λ (s : Store). ended_at (record old { regs = c.predict.new.regs; store = Some s }) c.in-Done.finish) stored
    ∙ ap (came_to old c.args.cause)
    (sym (ap (λ (step : Step80). reported_by step c.predict.new.regs (done_of c.predict.new.progress)) c.in-Done.is) ∙ c.predict.ensures.value)
