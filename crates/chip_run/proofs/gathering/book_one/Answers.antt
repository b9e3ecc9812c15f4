use Rattle.chip_run.proofs.Rounds.{free-at}
use Rattle.chip_run.proofs.gathering.book_one.Goals as goal

pub section_on-requires-clause-held : goal.section_on-requires-clause-held
section_on-requires-clause-held g c = free-at c.args.helds.now c.args.chip c.requires.free (c.has.ensures.0 c.if-has.true)
