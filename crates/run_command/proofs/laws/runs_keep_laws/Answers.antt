use Rattle.md_chips.specs.Starts.{Start}
use Rattle.run_command.specs.Courses.{start_at}
use Rattle.run_command.proofs.laws.runs_keep_laws.Goals as goal

pub returns : goal.returns
returns c =
    let start : Start = start_at c.args.machine.now in
    record {
      few_events = c.few_events.ensures;
      mover_first = c.mover_is_first.ensures;
      few_entries = c.few_entries.ensures start.console;
      moves_added = c.moves_added.ensures.machine start.console;
      entries_added = c.moves_added.ensures.entries start.console;
      output_added = c.moves_added.ensures.output start.console;
      runs_joined = c.joined.ensures start.console;
      sides_counted = c.samples_counted.ensures.sides start;
      levels_counted = c.samples_counted.ensures.levels start;
      frames_counted = c.frames_counted.ensures start;
    }
