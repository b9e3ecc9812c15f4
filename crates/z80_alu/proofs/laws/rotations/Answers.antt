use Rattle.z80_alu.proofs.Rotations.{rotated_back}
use Rattle.z80_alu.proofs.laws.rotations.Goals as goal

pub returns : goal.returns
returns c = rotated_back
