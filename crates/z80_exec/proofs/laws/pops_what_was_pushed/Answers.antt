use Rattle.z80_exec.proofs.Meaning.{again}
use Rattle.z80_exec.proofs.laws.pops_what_was_pushed.Goals as goal

pub returns : goal.returns
returns c = again
