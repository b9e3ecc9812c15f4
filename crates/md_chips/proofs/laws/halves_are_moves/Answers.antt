use Rattle.md_chips.proofs.Halves.{leaves}
use Rattle.md_chips.proofs.Moves.{move-same}
use Rattle.md_chips.proofs.laws.halves_are_moves.Goals as goal

pub returns-clause-leaves : goal.returns-clause-leaves
returns-clause-leaves c = leaves

pub returns-clause-moved : goal.returns-clause-moved
returns-clause-moved c = λ m i valid. move-same m valid i
