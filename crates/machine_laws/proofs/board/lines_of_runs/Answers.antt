use Rattle.machine_laws.proofs.LineMoves.{run_lines}
use Rattle.machine_laws.proofs.board.lines_of_runs.Goals as goal

pub returns : goal.returns
returns c = run_lines c.stages.ensures.valid c.stages.ensures.mover
