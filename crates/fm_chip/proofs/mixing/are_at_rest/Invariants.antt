use Rattle.std.proofs.Common.{ℕ, ◌<◌, get_or}
use Rattle.fm_chip.specs.Channels.{AreAtRest, blank}
use Rattle.fm_chip.proofs.mixing.are_at_rest.Given as goal

abbrev pub invariant-loop-channel : goal.invariant-loop-channel
invariant-loop-channel l = (k : ℕ) → k < l.channel-index → AreAtRest (get_or l.channels k blank)
