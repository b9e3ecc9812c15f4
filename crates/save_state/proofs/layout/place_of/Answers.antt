use Rattle.std.proofs.Common.{arith}
use Rattle.save_state.proofs.Places.{first_inside}
use Rattle.save_state.proofs.layout.place_of.Goals as goal

pub overflow_add-result : goal.overflow_add-result
overflow_add-result c =
    omega (arith, first_inside c.loop-rest.invariant.ordered.0 c.loop-rest.rest.now (record { place = 0; size = 0 }) c.in-len1-up.len_at_least c.loop-rest.invariant.ordered.1, c.min.ensures)
