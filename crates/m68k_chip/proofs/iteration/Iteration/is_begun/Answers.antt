use Rattle.std.proofs.Common.{sym, ap, ◌∙◌}
use Rattle.md_word.specs.declared.regs.Regs.{Regs}
use Rattle.m68k_chip.specs.Iterations.{reading}
use Rattle.m68k_chip.proofs.iteration.Iteration.is_begun.Goals as goal
use Rattle.m68k_chip.proofs.iteration.Iteration.is_begun.Goals.{then-self-sequencer, else-self-sequencer}

pub returns-then-is_reading-clause-reading : goal.returns-then-is_reading-clause-reading
returns-then-is_reading-clause-reading c = λ ram same. elim c.if-self-sequencer.branch [
  | then-self-sequencer w ↦ w.is_reading.ensures ram (sym w.value-is ∙ c.if-is_reading.true) ∙ ap (λ (r : Regs). reading ram r c.args.sequencer.now.start) (c.are_same.ensures same)
  | else-self-sequencer w ↦ absurd (let no_way = sym w.value-is ∙ c.if-is_reading.true in cc)
]
