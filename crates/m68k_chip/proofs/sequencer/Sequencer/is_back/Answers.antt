use Rattle.std.proofs.Common.{sym, ap, ◌∙◌}
use Rattle.md_word.specs.declared.regs.Regs.{Regs}
use Rattle.m68k_chip.specs.Iterations.{sampling}
use Rattle.m68k_chip.specs.States.{state_of}
use Rattle.m68k_chip.proofs.Repetitions.{at-next}
use Rattle.m68k_chip.proofs.sequencer.Sequencer.is_back.Goals as goal
use Rattle.m68k_chip.proofs.sequencer.Sequencer.is_back.Goals.{then-self-end, else-self-end}

pub returns-then-are_same-clause-sampling : goal.returns-then-are_same-clause-sampling
returns-then-are_same-clause-sampling c = λ ram back. elim c.if-self-end.branch [
  | then-self-end w ↦
      at-next ram c.args.self.now.regs c.args.self.now.start (state_of c.args.self.now ram) (c.is_sampling.ensures ram back) ∙ ap (λ (r : Regs). sampling ram r c.args.self.now.next) (w.are_same.ensures (sym w.value-is ∙ c.if-are_same.true))
  | else-self-end w ↦ absurd (let no_way = sym w.value-is ∙ c.if-are_same.true in cc)
]
