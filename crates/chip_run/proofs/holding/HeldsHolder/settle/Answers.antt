use Rattle.chip_run.proofs.Idle.{but-idle, idle-free}
use Rattle.chip_run.proofs.Leads.{settled-all}
use Rattle.chip_run.proofs.holding.HeldsHolder.settle.Goals as goal

pub returns : goal.returns
returns g c =
    idle-free c.settle_chip.new.self
    (settled-all g.C.ChipSet.rules c.args.chip c.args.self.now c.settle_chip.new.self (but-idle c.args.chip c.args.self.now c.requires) c.settle_chip.ensures.settled c.settle_chip.ensures.others)
