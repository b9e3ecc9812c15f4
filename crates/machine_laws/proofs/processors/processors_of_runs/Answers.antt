use Rattle.machine_laws.proofs.ProcessorMoves.{run_keeps}
use Rattle.machine_laws.proofs.processors.processors_of_runs.Goals as goal

pub returns : goal.returns
returns c = run_keeps
