use Rattle.machine_laws.proofs.Written.{writes-kept}
use Rattle.machine_laws.proofs.writes.writes_are_kept.Goals as goal

pub returns : goal.returns
returns c = λ start z end entries output small valid is has later run.
    writes-kept start z end entries output is has later run (c.events_are_paced.ensures start.console end run.moves small valid run.below)
