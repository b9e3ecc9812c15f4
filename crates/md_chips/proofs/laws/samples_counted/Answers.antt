use Rattle.md_chips.proofs.Counts.{levels-counted, sides-counted}
use Rattle.md_chips.proofs.laws.samples_counted.Goals as goal

pub returns-clause-sides : goal.returns-clause-sides
returns-clause-sides c = sides-counted

pub returns-clause-levels : goal.returns-clause-levels
returns-clause-levels c = levels-counted
