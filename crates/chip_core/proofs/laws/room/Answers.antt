use Rattle.chip_core.specs.Cores.{seen}
use Rattle.chip_core.proofs.Lists.{tidy-core}
use Rattle.chip_core.proofs.Works.{has_room}
use Rattle.chip_core.proofs.laws.room.Goals as goal

pub returns : goal.returns
returns g c =
    has_room g.C.ChipSet.rules g.C.ChipSet.chip_ok g.C.ChipSet.shared_ok g.met.C.ChipSet.lawful
    c.args.t c.requires.time (seen g.C.ChipSet.rules c.args.core.now)
    (tidy-core g.C.ChipSet.rules g.C.ChipSet.chip_ok g.C.ChipSet.shared_ok c.args.core.now c.known.ensures) c.args.core.now.room c.requires.room
