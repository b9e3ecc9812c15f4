use Rattle.std.proofs.Common.{sym, ◌≤◌, ◌+◌, ◌*◌, ◌/◌, arith}
use Rattle.fm_voice.proofs.Rounded.{attacked-is}
use Rattle.fm_voice.proofs.envelope.value.attacked.Goals as goal

pub returns-clause-value : goal.returns-clause-value
returns-clause-value c =
    let low : ((c.args.v + 1) * c.args.i + 15) / 16 ≤ c.args.v = grind (arith, c.requires.step, c.requires.above) in
    sym (attacked-is c.args.i c.args.v low)
