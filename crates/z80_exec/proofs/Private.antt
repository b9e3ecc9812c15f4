-- Instructions that make no shared access.
use Rattle.std.proofs.Common.{◌≡◌, ℕ, Bool, false, List, [], Option, Some, None, refl, slice_index, sym}
use Rattle.std.specs.Prelude.{IfSome}
use Rattle.z80_decode.specs.declared.decoded80.Decoded80.{Decoded80}
use Rattle.z80_parcel.specs.Parcels.{Store}
use Rattle.z80_exec.specs.Access.Actions.{Act}
use Rattle.z80_exec.specs.Access.Memory.{Memory, instruction_bytes}
use Rattle.z80_exec.specs.Access.Outcomes.{outcome_of}
use Rattle.z80_exec.specs.Sample.Caches.{IsInstructionOf}
use Rattle.z80_exec.specs.Sample.Execution.{row}
use Rattle.z80_exec.specs.Sample.Prediction.{answered_with}
use Rattle.z80_exec.specs.Sample.Private.{AsksOnce, EndsPrivately, IsPrivate, Reads, RunsPrivately, WaitsPrivately, wrote}
use Rattle.z80_exec.specs.Sample.Samples as samples
use Rattle.z80_exec.specs.Sample.Samples.{CoversAccesses, fetched, halts, is_ei, nothing}
use Rattle.z80_exec.specs.Sample.Times.{time_of}
use Rattle.z80_exec.specs.declared.regs80.Regs80.{Regs80}
use Rattle.z80_exec.specs.declared.sample.cache.CachedInstruction.{CachedInstruction}
use Rattle.z80_exec.specs.declared.sample.step.Finish80.{Finish80}
use Rattle.z80_exec.specs.declared.sample.step.Predicted80.{Predicted80}
use Rattle.z80_exec.specs.declared.sample.step.Step80.{Step80}
use Rattle.z80_exec.specs.declared.sample.step.Step80.TheVariants as steps
use Rattle.z80_exec.specs.declared.access.waiting.Waiting.{Waiting}
use Rattle.z80_exec.proofs.Bounds.Steps.{step_covers_accesses}

-- what does nothing but give a value
pub done-nothing : {A : Type 0} (act : Act A) (value : A) (store : Store) → Reads act value store → IsPrivate act value store store
done-nothing act value store gives = record { writes = []; gives = gives; left = refl }

-- an instruction that was carried out, from its fetch on
pub instruction-ends : (found : Decoded80) (first : ℕ) (old new : Regs80) (taken : Bool) (before after : Store) (finish : Finish80)
    → IsPrivate (row found.op (fetched found first old)) (outcome_of taken new) before after
    → finish.t ≡ time_of found.op taken → finish.halted ≡ halts found.op → finish.after_ei ≡ is_ei found.op
    → EndsPrivately (samples.instruction found first old) finish new before after
unfolding samples.instruction
instruction-ends found first old new taken before after finish carried time halted after_ei = record {
  writes = carried.writes;
  ends = λ memory same. rw (carried.gives memory same, time, halted, after_ei) refl;
  left = carried.left;
}

-- an instruction that waits for its one access, from its fetch on
pub instruction-asks : (found : Decoded80) (first : ℕ) (old regs : Regs80) (waiting : Waiting) (predicted : Predicted80) (store : Store)
    → AsksOnce (row found.op regs) waiting regs store → regs ≡ fetched found first old → predicted.regs ≡ regs
    → predicted.finish.t ≡ time_of found.op false → predicted.finish.halted ≡ halts found.op → predicted.finish.after_ei ≡ is_ei found.op
    → WaitsPrivately (samples.instruction found first old) waiting predicted store
unfolding samples.instruction
instruction-asks found first old regs waiting predicted store asked fetches same time halted after_ei = record {
  asks = λ memory ram none. rw (sym fetches) (rw (asked.asks memory ram none) refl);
  ends = λ memory ram none known value. rw (sym fetches) (rw (asked.ends memory ram none value, same, time, halted, after_ei) refl);
}

-- the instruction at the program counter
pub sample-runs : (result : Option Step80) (predicted : Predicted80) (old new : Regs80) (before after : Store) (bytes : List ℕ) (found : CachedInstruction)
    → ((seen : Memory) → seen.ram ≡ before.ram → bytes ≡ instruction_bytes old.pc seen) → IsInstructionOf bytes found
    → RunsPrivately result predicted (samples.instruction found.decoded (slice_index bytes 0) old) old new before after
    → RunsPrivately result predicted (samples.sampled 0 old) old new before after
unfolding samples.sampled
sample-runs (Some (steps.Done finish)) predicted old new before after bytes found read right runs = record {
  writes = runs.writes;
  ends = λ memory same. rw (sym (read memory same), sym right.decoded) (runs.ends memory same);
  left = runs.left;
}
sample-runs (Some (steps.Need waiting)) predicted old new before after bytes found read right runs = (
  record {
    asks = λ memory same none. rw (sym (read memory same), sym right.decoded) (runs.0.asks memory same none);
    ends = λ memory same none known value. rw (sym (read (answered_with value memory) same), sym right.decoded) (runs.0.ends memory same none known value);
  },
  runs.1,
  runs.2,
)
sample-runs None predicted old new before after bytes found read right runs = runs

-- the registers before the fetch
pub unfetched : (found : Decoded80) (first : ℕ) (old after : Regs80) → after ≡ fetched found first old → record after { pc = old.pc; r = old.r } ≡ old
unfolding fetched
unfetched found first old after same = rw same refl

-- its clocks
pub covers-none : (result : Option Step80) (predicted : Predicted80) (old new : Regs80) (before after : Store) → RunsPrivately result predicted (samples.sampled 0 old) old new before after → IfSome result (λ (step : Step80). CoversAccesses step 0)
covers-none (Some (steps.Done finish)) predicted old new before after ended =
    let memory : Memory = record { rom = []; ram = before.ram; bank = 0; answers = [] } in
    step_covers_accesses (steps.Done finish) new (wrote ended.writes) 0 old memory (sym (ended.ends memory refl))
covers-none (Some (steps.Need waiting)) predicted old new before after waits = tt
covers-none None predicted old new before after stays = tt
