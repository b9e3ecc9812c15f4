use Rattle.chip_run.proofs.Idle.{free-idle, idle-free}
use Rattle.chip_run.proofs.turns.BusTurnsHelds.take_turn.Goals as goal

pub wait_turn-requires-clause-free : goal.wait_turn-requires-clause-free
wait_turn-requires-clause-free g c = free-idle c.args.helds.now c.requires.free

pub returns : goal.returns
returns g c = idle-free c.wait_turn.new.helds c.wait_turn.ensures.free
