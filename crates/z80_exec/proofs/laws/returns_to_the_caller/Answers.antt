use Rattle.z80_exec.proofs.Meaning.{called, came_back}
use Rattle.z80_exec.proofs.laws.returns_to_the_caller.Goals as goal

pub returns : goal.returns
returns c = record { call = called; interrupt = came_back }
