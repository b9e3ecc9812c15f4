use Rattle.machine_laws.proofs.Paces.{Stages, paced-from}
use Rattle.machine_laws.proofs.writes.events_are_paced.Goals as goal

pub returns : goal.returns
returns c =
    let stages : Stages = record { movers = c.stages.ensures.mover; valid = c.stages.ensures.valid; least = c.stages.ensures.least; spread = c.limits.ensures.spread } in
    paced-from stages
