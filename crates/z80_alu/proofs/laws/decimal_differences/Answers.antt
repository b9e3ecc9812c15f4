use Rattle.z80_alu.proofs.Digits.{digits_subtracted}
use Rattle.z80_alu.proofs.laws.decimal_differences.Goals as goal

pub returns : goal.returns
returns c = digits_subtracted
