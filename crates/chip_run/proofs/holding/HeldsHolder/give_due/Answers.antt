use Rattle.chip_run.proofs.Idle.{but-idle, idle-free}
use Rattle.chip_run.proofs.Leads.{laid-free}
use Rattle.chip_run.proofs.holding.HeldsHolder.give_due.Goals as goal

pub returns : goal.returns
returns g c = idle-free c.move_to.new.self (laid-free c.args.chip c.args.self.now c.move_to.new.self (but-idle c.args.chip c.args.self.now c.requires) c.move_to.ensures.left)
