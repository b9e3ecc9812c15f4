use Rattle.std.proofs.Common.{sym, ◌∙◌}
use Rattle.chip_core.proofs.Chosen.{quiet-found, reached, lagging-enabled, lagging-chosen, move-enabled, move-chosen}
use Rattle.chip_core.proofs.scheduler.Core.some_enabled.Goals as goal

pub returns-then-found-t-clause-enabled : goal.returns-then-found-t-clause-enabled
returns-then-found-t-clause-enabled g c =
    quiet-found g.C.ChipSet.rules g.C.ChipSet.chip_ok g.C.ChipSet.shared_ok g.met.C.ChipSet.lawful
    c.args.self.now c.found-found.ensures.core c.args.t c.found-found.result.least c.found-found.ensures.least c.if-found-t.true

pub returns-then-found-t-clause-reached : goal.returns-then-found-t-clause-reached
returns-then-found-t-clause-reached g c =
    reached g.C.ChipSet.rules g.C.ChipSet.chip_ok g.C.ChipSet.shared_ok g.met.C.ChipSet.lawful
    c.args.self.now c.found-found.ensures.core c.args.t c.found-found.result.least c.found-found.ensures.least c.if-found-t.true

pub returns-in-Some-clause-enabled : goal.returns-in-Some-clause-enabled
returns-in-Some-clause-enabled g c =
    lagging-enabled g.C.ChipSet.rules g.C.ChipSet.chip_ok g.C.ChipSet.shared_ok g.met.C.ChipSet.lawful
    c.args.self.now c.found-found.ensures.core c.args.t c.found-found.result.least c.found-found.ensures.least c.if-found-t.false c.in-Some.chip (sym c.found-found.ensures.lagging ∙ c.in-Some.is)

pub returns-in-Some-clause-chosen : goal.returns-in-Some-clause-chosen
returns-in-Some-clause-chosen g c =
    lagging-chosen g.C.ChipSet.rules g.C.ChipSet.chip_ok g.C.ChipSet.shared_ok g.met.C.ChipSet.lawful
    c.args.self.now c.found-found.ensures.core c.args.t c.found-found.result.least c.found-found.ensures.least c.in-Some.chip (sym c.found-found.ensures.lagging ∙ c.in-Some.is)

pub returns-in-None-clause-enabled : goal.returns-in-None-clause-enabled
returns-in-None-clause-enabled g c =
    move-enabled g.C.ChipSet.rules g.C.ChipSet.chip_ok g.C.ChipSet.shared_ok g.met.C.ChipSet.lawful
    c.args.self.now c.found-found.ensures.core c.args.t c.found-found.result.least c.found-found.ensures.least c.if-found-t.false (sym c.found-found.ensures.lagging ∙ c.in-None.is)
    c.event_of.result c.event_of.ensures

pub returns-in-None-clause-chosen : goal.returns-in-None-clause-chosen
returns-in-None-clause-chosen g c =
    move-chosen g.C.ChipSet.rules g.C.ChipSet.chip_ok g.C.ChipSet.shared_ok g.met.C.ChipSet.lawful
    c.args.self.now c.found-found.ensures.core c.args.t c.found-found.result.least c.found-found.ensures.least (sym c.found-found.ensures.lagging ∙ c.in-None.is) c.event_of.result c.event_of.ensures
