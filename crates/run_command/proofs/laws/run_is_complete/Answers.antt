use Rattle.std.proofs.Common.{arith}
use Rattle.run_command.specs.Courses.{start_at}
use Rattle.run_command.proofs.LeastRuns.{run-complete}
use Rattle.run_command.proofs.laws.run_is_complete.Goals as goal

pub returns : goal.returns
returns c = run-complete (start_at c.args.machine.now) c.args.end c.runs_keep_laws.ensures (omega (arith, c.requires))
