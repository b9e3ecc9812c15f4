use Rattle.chip_run.proofs.Sweeps.{noted}
use Rattle.chip_run.proofs.sweep.visit.Goals as goal

pub returns-clause-noted : goal.returns-clause-noted
returns-clause-noted g c =
    noted c.args.chip c.args.changed.now c.args.locked.now.parts.bounds c.note.new.changed c.turn_of-turn.new.locked.parts.bounds c.bound-before.result c.bound.result
    c.turn_of-turn.ensures.bounds c.bound-before.ensures c.bound.ensures c.note.ensures.same c.note.ensures.differs
