use Rattle.chip_core.proofs.Joins.{same-run}
use Rattle.chip_core.proofs.laws.one_run.Goals as goal

pub returns : goal.returns
returns g c = same-run g.C.ChipSet.rules g.C.ChipSet.chip_ok g.C.ChipSet.shared_ok g.met.C.ChipSet.lawful
