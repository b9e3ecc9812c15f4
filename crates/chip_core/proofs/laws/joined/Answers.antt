use Rattle.chip_core.proofs.Joins.{run-joined}
use Rattle.chip_core.proofs.laws.joined.Goals as goal

pub returns : goal.returns
returns g c = run-joined g.C.ChipSet.rules g.C.ChipSet.chip_ok g.C.ChipSet.shared_ok g.met.C.ChipSet.lawful
