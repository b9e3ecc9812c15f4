use Rattle.std.proofs.Common.{ℕ, List, ap, ◌∙◌}
use Rattle.m68k_decode.specs.Fields.{opcode}
use Rattle.m68k_decode.specs.Instructions.{instruction_of}
use Rattle.m68k_exec.proofs.Prediction.{sample-predicts}
use Rattle.m68k_exec.proofs.sample.run.Goals as goal

pub returns-clause-predicted : goal.returns-clause-predicted
returns-clause-predicted c =
    rw (c.bytes.ensures.value, c.as_slice.ensures.value) at
    (sample-predicts c.sample.new.step c.sample.new.predicted c.args.cause c.args.regs.now _ _ _
    (c.decode_into.ensures.value ∙ ap (λ (l : List ℕ). instruction_of l) c.instruction_words-words.ensures) (ap (λ (l : List ℕ). opcode l) c.instruction_words-words.ensures) c.sample.ensures.predicted)
