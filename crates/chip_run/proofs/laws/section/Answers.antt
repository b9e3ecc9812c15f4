use Rattle.chip_run.proofs.Answered.{moved-exactly, blocked-by, finished-exactly}
use Rattle.chip_run.proofs.CoreSteps.{core-section}
use Rattle.chip_run.proofs.laws.section.Goals as goal

pub returns-clause-moved : goal.returns-clause-moved
returns-clause-moved g c = moved-exactly g.C.ChipSet.rules c.args.chip c.args.locked.now c.args.helds.now c.section_on.result _ _ c.section_on.ensures

pub returns-clause-blocked : goal.returns-clause-blocked
returns-clause-blocked g c = blocked-by g.C.ChipSet.rules c.args.chip c.args.locked.now c.args.helds.now c.section_on.result _ _ c.section_on.ensures

pub returns-clause-finished : goal.returns-clause-finished
returns-clause-finished g c = finished-exactly g.C.ChipSet.rules c.args.chip c.args.locked.now c.args.helds.now c.section_on.result _ _ c.section_on.ensures

pub returns-clause-core : goal.returns-clause-core
returns-clause-core g c = core-section g.C.ChipSet.rules c.args.chip c.args.locked.now c.args.helds.now c.section_on.result _ _ c.section_on.ensures
