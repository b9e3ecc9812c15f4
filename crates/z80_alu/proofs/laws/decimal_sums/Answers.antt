use Rattle.z80_alu.proofs.Digits.{digits_added}
use Rattle.z80_alu.proofs.laws.decimal_sums.Goals as goal

pub returns : goal.returns
returns c = digits_added
