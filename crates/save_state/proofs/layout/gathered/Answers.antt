use Rattle.std.proofs.Common.{arith}
use Rattle.save_state.proofs.Places.{first_inside}
use Rattle.save_state.proofs.layout.gathered.Goals as goal

pub of-requires : goal.of-requires
of-requires c =
    omega (arith, c.requires.whole, first_inside c.loop-rest.invariant.ordered.0 c.loop-rest.rest.now (record { place = 0; size = 0 }) c.in-len1-up.len_at_least c.loop-rest.invariant.ordered.1)
