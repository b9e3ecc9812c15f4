use Rattle.machine_laws.proofs.LineMoves.{power_on_lines}
use Rattle.machine_laws.proofs.board.lines_at_power_on.Goals as goal

pub returns : goal.returns
returns c = power_on_lines
