use Rattle.std.proofs.Common.{ap, sym, ◌∙◌}
use Rattle.m68k_chip.specs.Iterations.{sampling}
use Rattle.m68k_chip.proofs.Iterations.{cycles-are}
use Rattle.m68k_chip.proofs.iteration.Iteration.follow.Goals as goal

pub returns-in-Some : goal.returns-in-Some
returns-in-Some c = λ cart ram led.
    let first = cycles-are c.args.self.now.start c.args.sequencer.now.start _ _ c.cycles_between.ensures c.in-Some.is in
    let stands = c.is_sampling.ensures ram c.if-is_sampling.true ∙ ap (sampling ram c.args.sequencer.now.regs) (sym first) in
    (led ∙ stands, stands)
