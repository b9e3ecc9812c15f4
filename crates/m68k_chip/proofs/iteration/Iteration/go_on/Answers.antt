use Rattle.std.proofs.Common.{subst}
use Rattle.m68k_chip.specs.Iterations.{IsOn}
use Rattle.m68k_chip.specs.declared.iteration.Place.{Place}
use Rattle.m68k_chip.proofs.iteration.Iteration.go_on.Goals as goal

pub returns-in-Opened : goal.returns-in-Opened
returns-in-Opened c = λ cart ram before request predicted end on watched begun.
    c.close.ensures cart ram before request predicted end (subst (λ (p : Place). IsOn p c.args.self.now cart before request predicted) c.in-Opened.is on) watched begun (watched.quiet c.if-watched.true)
