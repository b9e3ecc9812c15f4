use Rattle.z80_alu.proofs.Numbers.{numbers_subtracted}
use Rattle.z80_alu.proofs.laws.differences.Goals as goal

pub returns : goal.returns
returns c = numbers_subtracted
