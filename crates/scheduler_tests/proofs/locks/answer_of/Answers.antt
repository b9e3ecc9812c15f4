use Rattle.chip_run.proofs.Rounds.{free-at}
use Rattle.scheduler_tests.proofs.locks.answer_of.Goals as goal

pub section-turn-requires-clause-held : goal.section-turn-requires-clause-held
section-turn-requires-clause-held g c = free-at c.args.helds.now 0 (c.requires.free) (c.has.ensures.0 c.if-has.true)
