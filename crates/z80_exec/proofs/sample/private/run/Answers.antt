use Rattle.std.proofs.Common.{◌∙◌, subst}
use Rattle.z80_parcel.specs.Parcels.{Store, store_of}
use Rattle.z80_exec.specs.Access.Outcomes.{Outcome, outcome_of}
use Rattle.z80_exec.specs.Sample.Execution.{row}
use Rattle.z80_exec.specs.Sample.Private.{AsksOnce, IsPrivate}
use Rattle.z80_exec.specs.declared.regs80.Regs80.{Regs80}
use Rattle.z80_exec.proofs.Private.{instruction-asks, instruction-ends, unfetched}
use Rattle.z80_exec.proofs.sample.private.run.Goals as goal

pub returns-in-Some : goal.returns-in-Some
returns-in-Some c first rise =
    instruction-ends c.args.found.now.decoded first c.args.regs.now c.execute.new.regs c.in-Some.taken (store_of c.args.parcel.now) (store_of c.execute.new.parcel) c.finish_of.result
    (subst (λ (regs : Regs80). IsPrivate {A = Outcome} (row c.args.found.now.decoded.op regs) (outcome_of c.in-Some.taken c.execute.new.regs) (store_of c.args.parcel.now) (store_of c.execute.new.parcel))
    (c.fetch.ensures first rise) c.in-Some.ensures)
    c.finish_of.ensures.time c.finish_of.ensures.halted c.finish_of.ensures.after_ei

pub returns-in-Some-write : goal.returns-in-Some-write
returns-in-Some-write c first rise =
    let fetches = c.in-None.ensures.0 ∙ c.fetch.ensures first rise in (
      instruction-asks c.args.found.now.decoded first c.args.regs.now c.execute.new.regs c.in-Some-write.waiting c.predict_fetched.new.predicted (store_of c.args.parcel.now)
          (subst (λ (store : Store). AsksOnce (row c.args.found.now.decoded.op c.execute.new.regs) c.in-Some-write.waiting c.execute.new.regs store) c.in-None.ensures.1 c.in-Some-write.ensures)
          fetches c.predict_fetched.ensures.regs c.predict_fetched.ensures.time c.predict_fetched.ensures.halted c.predict_fetched.ensures.after_ei,
      unfetched c.args.found.now.decoded first c.args.regs.now c.execute.new.regs fetches,
      c.in-None.ensures.1,
    )

pub returns-in-None-write : goal.returns-in-None-write
returns-in-None-write c first rise =
    (unfetched c.args.found.now.decoded first c.args.regs.now c.execute.new.regs (c.in-None.ensures.0 ∙ c.fetch.ensures first rise), c.in-None.ensures.1)
