use Rattle.std.proofs.Common.{sym, subst}
use Rattle.md_chips.specs.ValidParts.{HasValidParts}
use Rattle.md_chips.specs.Starts.{Start}
use Rattle.machine_laws.proofs.saved.runs_reach.Goals as goal

pub returns : goal.returns
returns c = λ m z at end entries output reached order small run.
    let start : Start = record { at = at; console = m } in
    record {
      start = c.run_ends_at_start.ensures start z end entries output reached.start order run;
      parts = subst HasValidParts (sym run.console) (c.parts_stay_valid.ensures m end run.moves small reached.parts run.below);
      processors = c.processors_of_runs.ensures m z at end entries output reached.processors order run;
      video = c.video_of_runs.ensures m z at end entries output reached.video order run;
      lines = c.lines_of_runs.ensures m z at end entries output reached.parts reached.lines reached.start.quiet order small run;
      writes = c.writes_are_kept.ensures start z end entries output small reached.parts reached.start reached.writes order run;
      timers = c.timers_are_kept.ensures start z end entries output reached.timers order run;
    }
