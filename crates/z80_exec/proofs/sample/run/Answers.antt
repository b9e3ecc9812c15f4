use Rattle.std.proofs.Common.{ℕ, slice_index, ap, refl, subst, sym, ◌∙◌}
use Rattle.z80_decode.specs.declared.decoded80.Decoded80.{Decoded80}
use Rattle.z80_exec.specs.Access.Clauses.{memory_of}
use Rattle.z80_exec.specs.Access.Memory.{instruction_bytes}
use Rattle.z80_exec.specs.Sample.Prediction.{EndsPredicted}
use Rattle.z80_exec.specs.Sample.Samples as samples
use Rattle.z80_exec.proofs.Prediction.{sample-predicts}
use Rattle.z80_exec.proofs.sample.run.Goals as goal

pub returns-then-cause-eq0-clause-predicted : goal.returns-then-cause-eq0-clause-predicted
returns-then-cause-eq0-clause-predicted c =
    subst (λ (cause : ℕ). EndsPredicted c.instruction.result c.instruction.new.predicted (samples.sampled cause c.args.regs.now) (memory_of c.args.context.now)) (sym c.if-cause-eq0.true)
    (sample-predicts c.instruction.result c.instruction.new.predicted c.args.regs.now (memory_of c.args.context.now) c.args.found.now.decoded
    (slice_index (instruction_bytes c.args.regs.now.pc (memory_of c.args.context.now)) 0) c.requires.decoded refl
    (c.instruction.ensures.predicted _ c.requires.rise))

pub returns-then-cause-eq0-clause-value : goal.returns-then-cause-eq0-clause-value
unfolding samples.sampled
returns-then-cause-eq0-clause-value c =
    rw c.if-cause-eq0.true
    (c.instruction.ensures.value _ c.requires.rise
    ∙ ap (λ (d : Decoded80). samples.instruction d (slice_index (instruction_bytes c.args.regs.now.pc (memory_of c.args.context.now)) 0) c.args.regs.now (memory_of c.args.context.now))
    c.requires.decoded)
