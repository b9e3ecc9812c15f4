use Rattle.std.proofs.Common.{sym, ◌∙◌, ap}
use Rattle.chip_core.specs.Cores.{seen}
use Rattle.chip_core.specs.Events.{after}
use Rattle.chip_core.proofs.scheduler.Core.carry_out.Goals as goal

pub returns-in-Announce-clause-after : goal.returns-in-Announce-clause-after
returns-in-Announce-clause-after g c =
    c.announce.ensures.after ∙ ap (after g.C.ChipSet.rules (seen g.C.ChipSet.rules c.args.self.now)) (sym c.in-Announce.is)

pub returns-in-Perform-clause-after : goal.returns-in-Perform-clause-after
returns-in-Perform-clause-after g c =
    c.perform.ensures.after ∙ ap (after g.C.ChipSet.rules (seen g.C.ChipSet.rules c.args.self.now)) (sym c.in-Perform.is)

pub returns-in-Sample-clause-after : goal.returns-in-Sample-clause-after
returns-in-Sample-clause-after g c =
    c.sample.ensures.after ∙ ap (after g.C.ChipSet.rules (seen g.C.ChipSet.rules c.args.self.now)) (sym c.in-Sample.is)
