use Rattle.std.proofs.Common.{arith}
use Rattle.fm_chip.proofs.Mixed.{all_done}
use Rattle.fm_chip.proofs.mixing.rest_all.Goals as goal

pub returns-clause-after : goal.returns-clause-after
returns-clause-after c =
    λ registers m steps. all_done registers m c.args.channels.now c.loop-number.channels c.loop-number.invariant.six
    (λ j h. c.loop-number.invariant.done registers m steps j (omega (arith, h)))
