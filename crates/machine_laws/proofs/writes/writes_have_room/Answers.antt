use Rattle.machine_laws.proofs.Written.{writes-room}
use Rattle.machine_laws.proofs.writes.writes_have_room.Goals as goal

pub returns : goal.returns
returns c = λ start end n small valid is has later below.
    writes-room start end n is has later below (c.events_are_paced.ensures start.console end n small valid below)
