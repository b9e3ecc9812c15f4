use Rattle.m68k_chip.specs.States.{state_of}
use Rattle.m68k_chip.proofs.Iterations.{closed, cycles-are}
use Rattle.m68k_chip.proofs.iteration.Iteration.close.Goals as goal

pub returns-in-Some-Some : goal.returns-in-Some-Some
returns-in-Some-Some c = λ cart ram before request predicted end on watched begun same.
    closed c.args.self.now cart ram before (state_of c.args.sequencer.now ram) c.args.watched.now end c.args.level c.args.begun c.in-Some-Some.last c.in-Some-Some.rest c.args.sequencer.now.start c.args.sequencer.now.regs on.0 on.1 watched begun same
    (c.is_reading.ensures ram c.if-is_reading.true) (c.are_same.ensures c.if-are_same.true)
    (cycles-are c.args.begun c.args.watched.now.latest _ _ c.cycles_between-last.ensures c.in-Some-Some.is-0) (cycles-are c.args.begun c.args.sequencer.now.start _ _ c.cycles_between-rest.ensures c.in-Some-Some.is-1)
