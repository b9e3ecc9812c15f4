use Rattle.chip_run.proofs.Wholes.{locked-same}
use Rattle.chip_run.proofs.leading.turn_place.Goals as goal

pub returns-in_default-clause-locked : goal.returns-in_default-clause-locked
returns-in_default-clause-locked g c = locked-same g.C.ChipSet.rules g.C.ChipSet.chip_ok g.C.ChipSet.shared_ok (g.C.ChipSet.core_of g.N.Named.base) g.N.Named.end c.args.number c.args.parts.now c.args.book.now.total
