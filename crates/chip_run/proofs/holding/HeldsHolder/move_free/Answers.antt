use Rattle.std.proofs.Common.{None}
use Rattle.chip_run.proofs.Idle.{free-idle, idle-free}
use Rattle.chip_run.proofs.Leads.{moved-free}
use Rattle.chip_run.proofs.Rounds.{set-free}
use Rattle.chip_run.proofs.holding.HeldsHolder.move_free.Goals as goal

pub returns-clause-left : goal.returns-clause-left
returns-clause-left g c = idle-free c.move_to.new.self (set-free c.args.self.now c.move_to.new.self c.args.chip None (free-idle c.args.self.now c.requires.here) tt c.move_to.ensures.left)

pub returns-clause-moved : goal.returns-clause-moved
returns-clause-moved g c =
    idle-free c.move_to.new.other
    (moved-free c.args.chip c.args.self.now c.args.other.now c.move_to.new.other (free-idle c.args.self.now c.requires.here) (free-idle c.args.other.now c.requires.there) c.move_to.ensures.moved)
