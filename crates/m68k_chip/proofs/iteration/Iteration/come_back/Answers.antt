use Rattle.std.proofs.Common.{subst, sym, ap, ◌∙◌}
use Rattle.md_word.specs.declared.regs.Regs.{Regs}
use Rattle.m68k_chip.specs.Iterations.{IsOn, reading}
use Rattle.m68k_chip.specs.States.{state_of}
use Rattle.m68k_chip.specs.declared.iteration.Place.{Place}
use Rattle.m68k_chip.specs.declared.iteration.Place.TheVariants.{Learned, AtRead}
use Rattle.m68k_chip.proofs.Iterations.{placed}
use Rattle.m68k_chip.proofs.iteration.Iteration.come_back.Goals as goal
use Rattle.m68k_chip.proofs.iteration.Iteration.come_back.Goals.{then-is_reading+then-are_same+then-self-sequencer, else-is_reading}

pub returns : goal.returns
returns c = λ cart ram is. elim c.if-is_reading.branch [
  | then-is_reading+then-are_same+then-self-sequencer w ↦
      subst (λ (p : Place). IsOn p (record c.args.self.now { place = p }) cart (state_of c.args.sequencer.now ram) c.args.sequencer.now.request c.args.sequencer.now.predicted) (sym w.self-is)
      (placed AtRead c.args.self.now cart ram is, c.is_reading.ensures ram w.if-is_reading.true ∙ ap (λ (r : Regs). reading ram r c.args.sequencer.now.start) (w.are_same.ensures w.if-are_same.true), w.if-self-sequencer.true)
  | else-is_reading w ↦
      subst (λ (p : Place). IsOn p (record c.args.self.now { place = p }) cart (state_of c.args.sequencer.now ram) c.args.sequencer.now.request c.args.sequencer.now.predicted) (sym w.self-is) (placed Learned c.args.self.now cart ram is)
]
