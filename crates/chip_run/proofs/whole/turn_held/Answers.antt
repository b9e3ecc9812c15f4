use Rattle.chip_run.proofs.Wholes.{locked-next, locked-twice}
use Rattle.chip_run.proofs.whole.turn_held.Goals as goal

pub sample_held-requires-clause-locked : goal.sample_held-requires-clause-locked
sample_held-requires-clause-locked g c =
    locked-next g.C.ChipSet.rules g.C.ChipSet.chip_ok g.C.ChipSet.shared_ok (g.C.ChipSet.core_of g.N.Named.base) g.N.Named.end c.args.number c.args.parts.now c.args.book.now.total c.access_held.new.parts c.access_held.new.book.total c.requires.locked c.access_held.ensures.locked

pub announce_held-requires-clause-locked : goal.announce_held-requires-clause-locked
announce_held-requires-clause-locked g c =
    locked-next g.C.ChipSet.rules g.C.ChipSet.chip_ok g.C.ChipSet.shared_ok (g.C.ChipSet.core_of g.N.Named.base) g.N.Named.end c.args.number c.access_held.new.parts c.access_held.new.book.total c.sample_held.new.parts c.sample_held.new.book.total
    (locked-next g.C.ChipSet.rules g.C.ChipSet.chip_ok g.C.ChipSet.shared_ok (g.C.ChipSet.core_of g.N.Named.base) g.N.Named.end c.args.number c.args.parts.now c.args.book.now.total c.access_held.new.parts c.access_held.new.book.total c.requires.locked c.access_held.ensures.locked)
    c.sample_held.ensures.locked

pub returns-then-sample_held-clause-locked : goal.returns-then-sample_held-clause-locked
returns-then-sample_held-clause-locked g c =
    locked-twice g.C.ChipSet.rules g.C.ChipSet.chip_ok g.C.ChipSet.shared_ok (g.C.ChipSet.core_of g.N.Named.base) g.N.Named.end c.args.number c.args.parts.now c.args.book.now.total c.sample_held.new.parts c.sample_held.new.book.total c.announce_held.new.parts c.announce_held.new.book.total
    (locked-twice g.C.ChipSet.rules g.C.ChipSet.chip_ok g.C.ChipSet.shared_ok (g.C.ChipSet.core_of g.N.Named.base) g.N.Named.end c.args.number c.args.parts.now c.args.book.now.total c.access_held.new.parts c.access_held.new.book.total c.sample_held.new.parts c.sample_held.new.book.total c.access_held.ensures.locked c.sample_held.ensures.locked)
    c.announce_held.ensures.locked

pub returns-else-sample_held-clause-locked : goal.returns-else-sample_held-clause-locked
returns-else-sample_held-clause-locked g c =
    locked-twice g.C.ChipSet.rules g.C.ChipSet.chip_ok g.C.ChipSet.shared_ok (g.C.ChipSet.core_of g.N.Named.base) g.N.Named.end c.args.number c.args.parts.now c.args.book.now.total c.access_held.new.parts c.access_held.new.book.total c.sample_held.new.parts c.sample_held.new.book.total c.access_held.ensures.locked c.sample_held.ensures.locked
