use Rattle.std.proofs.Common.{◌∙◌, arith}
use Rattle.md_chips.specs.Starts.{Start}
use Rattle.run_command.specs.Courses.{start_at}
use Rattle.run_command.specs.Runs.{entries_from, media_from, run_from}
use Rattle.run_command.proofs.LeastRuns.{run-made}
use Rattle.run_command.proofs.laws.pairs_are_counted.Goals as goal

pub returns : goal.returns
returns c =
    let start : Start = start_at c.args.machine.now in
    c.runs_keep_laws.ensures.levels_counted (run_from start c.args.end) c.args.end (entries_from start c.args.end) (media_from start c.args.end)
    c.requires.start (run-made start c.args.end c.runs_keep_laws.ensures (omega (arith, c.requires.near)))
    ∙ omega arith
