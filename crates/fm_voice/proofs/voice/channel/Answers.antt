use Rattle.std.proofs.Common.{◌≡◌, pos, refl, to_z, of_z, w32, arith}
use Rattle.std.proofs.lemmas.Int.{ints}
use Rattle.fm_voice.specs.Channel as meaning
use Rattle.fm_voice.specs.Channel.{last_at}
use Rattle.fm_voice.proofs.Quiet.{heard-quiet, last-quiet}
use Rattle.fm_voice.proofs.voice.channel.Goals as goal

pub returns-then-are_silent-clause-value : goal.returns-then-are_silent-clause-value
returns-then-are_silent-clause-value c =
    heard-quiet (meaning.channel_voice c.args.algorithm c.args.feedback c.args.phases.now c.args.attenuations.now c.args.last.now) (c.if-are_silent.ensures {u = tt} refl)

pub returns-then-are_silent-clause-last : goal.returns-then-are_silent-clause-last
returns-then-are_silent-clause-last c =
    let newer = c.requires.last 1 (pos 0) (omega arith) in
    let n : to_z w32 (of_z w32 (last_at c.args.last.now 1)) ≡ last_at c.args.last.now 1 = omega (arith, ints, newer.0, newer.1) in
    last-quiet (meaning.channel_voice c.args.algorithm c.args.feedback c.args.phases.now c.args.attenuations.now c.args.last.now) _ (c.if-are_silent.ensures {u = tt} refl) n
