use Rattle.md_chips.proofs.Regions.{ran_stays}
use Rattle.md_chips.proofs.laws.region_stays.Goals as goal

pub returns : goal.returns
returns c = λ m moves. ((ran_stays m moves).pal, (ran_stays m moves).region)
