use Rattle.asm_laws.proofs.Faults.{faulty}
use Rattle.asm_laws.proofs.round_trip.faults_are_right.Goals as goal

pub returns : goal.returns
returns c = λ source line kind is. faulty source line kind is
