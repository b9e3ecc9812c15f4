use Rattle.std.proofs.Common.{◌≡◌, ℕ, List, subst}
use Rattle.z80_exec.specs.Access.Clauses.{done_of}
use Rattle.z80_exec.specs.Access.Memory.{Memory}
use Rattle.z80_exec.specs.Sample.Caches.{IsInstructionOf}
use Rattle.z80_exec.specs.Sample.Samples as samples
use Rattle.z80_exec.specs.Sample.Samples.{reported_by}
use Rattle.z80_exec.proofs.Bounds.Steps.{step_covers_accesses, step_waits_below, step_waits_rightly}
use Rattle.z80_exec.proofs.sample.go.Goals as goal

pub run-requires : goal.run-requires
run-requires c = subst (λ (bytes : List ℕ). IsInstructionOf bytes c.cached-found.result) c.instruction_bytes.ensures c.cached-found.ensures.instruction

reported : (c : goal.After-run) → reported_by c.run.result c.run.new.regs (done_of c.run.new.progress)
    ≡ samples.sampled c.args.cause c.args.regs.now (record { rom = c.args.cart.now; ram = c.args.parcel.now.ram.value; bank = c.args.parcel.now.bank; answers = c.args.answers.now.items })
reported c = subst (λ (m : Memory). reported_by c.run.result c.run.new.regs (done_of c.run.new.progress) ≡ samples.sampled c.args.cause c.args.regs.now m) c.context_of-context.ensures c.run.ensures.value

pub returns-clause-value : goal.returns-clause-value
returns-clause-value c = reported c

pub returns-clause-waits : goal.returns-clause-waits
returns-clause-waits c = step_waits_below c.run.result _ _ _ _ _ (reported c)

pub returns-clause-asks : goal.returns-clause-asks
returns-clause-asks c = step_waits_rightly c.run.result _ _ _ _ _ (reported c)

pub returns-clause-covers : goal.returns-clause-covers
returns-clause-covers c = step_covers_accesses c.run.result _ _ _ _ _ (reported c)
