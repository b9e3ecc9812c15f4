use Rattle.std.proofs.Common.{refl}
use Rattle.fm_chip.proofs.Rests.{all_rest}
use Rattle.fm_chip.proofs.channels.Channel.tick.Goals as goal

pub returns-then-is_at_rest-clause-value : goal.returns-then-is_at_rest-clause-value
returns-then-is_at_rest-clause-value c = all_rest c.args.shapes.now c.args.counter c.args.self.now (c.if-is_at_rest.ensures {u = tt} refl)
