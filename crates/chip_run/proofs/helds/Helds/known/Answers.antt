use Rattle.chip_run.proofs.Places.{paths-of}
use Rattle.chip_run.proofs.helds.Helds.known.Goals as goal

pub returns : goal.returns
returns g c =
    paths-of g.C.ChipSet.rules g.C.ChipSet.chip_ok g.C.ChipSet.shared_ok (g.C.ChipSet.core_of g.N.Named.base) g.N.Named.end c.args.self.now c.self.inside.place0 c.self.inside.place1 c.self.inside.place2 c.self.inside.place3 c.self.inside.place4 c.self.view_is
    c.self.invariant.0 c.self.invariant.1 c.self.invariant.2 c.self.invariant.3 c.self.invariant.4 c.know_place.ensures c.know_place-2.ensures c.know_place-3.ensures c.know_place-4.ensures c.know_place-5.ensures
