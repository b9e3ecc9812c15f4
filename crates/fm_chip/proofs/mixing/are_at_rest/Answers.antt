use Rattle.std.proofs.Common.{◌<◌, subst, arith}
use Rattle.std.proofs.lemmas.List.{get_or_default}
use Rattle.fm_chip.specs.Channels.{AreAtRest, blank}
use Rattle.fm_chip.proofs.mixing.are_at_rest.Goals as goal

pub returns : goal.returns
returns c t k d within =
    let below : k < c.loop-channel.channel-index = omega (arith, within, c.loop-channel-test.false, c.loop-channel.auto.channel-index-end) in
    subst AreAtRest (get_or_default c.args.channels.now k blank d within) (c.loop-channel.invariant k below)
