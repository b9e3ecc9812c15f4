use Rattle.chip_run.proofs.Idle.{none-idle}
use Rattle.chip_run.proofs.holding.HeldsHolder.none.Goals as goal

pub returns : goal.returns
returns g c = none-idle g.row.C-Chip.Denot g.row.C-Pins.Denot
