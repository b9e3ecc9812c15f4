use Rattle.z80_exec.proofs.Compares.{compares}
use Rattle.z80_exec.proofs.laws.conditions_compare.Goals as goal

pub returns : goal.returns
returns c = compares
