use Rattle.std.proofs.Common.{arith}
use Rattle.md_debug.proofs.Few.{few_pushed}
use Rattle.md_debug.proofs.kept_states.KeptStates.push.Goals as goal

pub push_front_reserved-requires : goal.push_front_reserved-requires
push_front_reserved-requires c =
    let few = few_pushed _ _ _ _ _ c.push.ensures.states in
    omega (arith, c.self.invariant.all, c.self.invariant.each, c.push.ensures.sizes.0, c.truncate.ensures.len, c.truncate.ensures.capacity, c.count.ensures)
