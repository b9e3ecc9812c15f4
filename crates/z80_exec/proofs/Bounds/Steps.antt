-- What a step that reports a sample has, as the code meets it.
use Rattle.std.proofs.Common.{◌≡◌, ℕ, length, sym}
use Rattle.md_word.specs.Answers.{Done}
use Rattle.z80_exec.specs.declared.regs80.Regs80.{Regs80}
use Rattle.z80_exec.specs.declared.sample.step.Step80.{Step80}
use Rattle.z80_exec.specs.declared.sample.step.Step80.TheVariants as steps
use Rattle.z80_exec.specs.Access.Clauses.{request_of}
use Rattle.z80_exec.specs.Access.Memory.{Memory}
use Rattle.z80_exec.specs.Sample.Samples.{CoversAccesses, WaitsBelow, WaitsRightly, sampled, reported_by}
use Rattle.z80_exec.proofs.Bounds.Samples.{asks, covers, most, waits}

pub step_waits_below : (step : Step80) (after : Regs80) (done : Done) (cause : ℕ) (regs : Regs80) (memory : Memory) → reported_by step after done ≡ sampled cause regs memory → WaitsBelow step (length memory.answers) 4
step_waits_below (steps.Need waiting) after done cause regs memory e = waits cause regs memory (request_of waiting) (sym e)
step_waits_below (steps.Done finish) after done cause regs memory e = tt

pub step_waits_rightly : (step : Step80) (after : Regs80) (done : Done) (cause : ℕ) (regs : Regs80) (memory : Memory) → reported_by step after done ≡ sampled cause regs memory → WaitsRightly step
step_waits_rightly (steps.Need waiting) after done cause regs memory e = asks cause regs memory (request_of waiting) (sym e)
step_waits_rightly (steps.Done finish) after done cause regs memory e = tt

pub step_covers_accesses : (step : Step80) (after : Regs80) (done : Done) (cause : ℕ) (regs : Regs80) (memory : Memory) → reported_by step after done ≡ sampled cause regs memory → CoversAccesses step done.used
step_covers_accesses (steps.Need waiting) after done cause regs memory e = tt
step_covers_accesses (steps.Done finish) after done cause regs memory e =
    (covers cause regs memory _ (sym e), most cause regs memory _ (sym e))
