use Rattle.chip_run.proofs.Idle.{free-idle, idle-led}
use Rattle.chip_run.proofs.Rounds.{free-same}
use Rattle.chip_run.proofs.turns.BusTurnsHelds.lead.Goals as goal

pub turns-requires-clause-free : goal.turns-requires-clause-free
turns-requires-clause-free g c = free-same c.args.helds.now c.pass_all.new.self c.pass_all.ensures (free-idle c.args.helds.now c.requires.free)

pub returns : goal.returns
returns g c = idle-led c.turns.result c.turns.new.helds c.turns.ensures
