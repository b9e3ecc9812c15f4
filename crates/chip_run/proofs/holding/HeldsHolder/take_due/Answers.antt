use Rattle.chip_run.specs.Places.{place}
use Rattle.chip_run.proofs.Idle.{free-idle, idle-but}
use Rattle.chip_run.proofs.Leads.{set-but}
use Rattle.chip_run.proofs.holding.HeldsHolder.take_due.Goals as goal

pub returns : goal.returns
returns g c =
    idle-but c.args.chip c.move_to.new.other (set-but c.args.chip c.args.other.now c.move_to.new.other (place c.args.self.now c.args.chip) (free-idle c.args.other.now c.requires) c.move_to.ensures.moved)
