use Rattle.chip_run.proofs.Makes.{first-there}
use Rattle.chip_run.proofs.running.run_named.Goals as goal

pub work-requires-clause-held : goal.work-requires-clause-held
work-requires-clause-held g c κs within = λ i low. first-there g.C.ChipSet.rules (g.C.ChipSet.core_of g.N.RunName.base) c.make-bus.result.1 c.make-bus.ensures.held i low
