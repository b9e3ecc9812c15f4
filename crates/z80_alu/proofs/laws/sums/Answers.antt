use Rattle.z80_alu.proofs.Numbers.{numbers_added}
use Rattle.z80_alu.proofs.laws.sums.Goals as goal

pub returns : goal.returns
returns c = numbers_added
