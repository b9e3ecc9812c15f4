use Rattle.md_chips.proofs.QuietStays.{stays-quiet}
use Rattle.md_chips.proofs.laws.quiet_stays.Goals as goal

pub returns : goal.returns
returns c = stays-quiet c.stages.ensures.valid c.stages.ensures.mover c.limits.ensures.spread
