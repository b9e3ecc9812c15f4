use Rattle.md_chips.proofs.ValidParts.{parts_ran}
use Rattle.md_chips.proofs.laws.parts_stay_valid.Goals as goal

pub returns : goal.returns
returns c = parts_ran c.stages.ensures.valid c.stages.ensures.mover
