use Rattle.work_sharing.specs.Dues.{AllFree}
use Rattle.work_sharing.proofs.sharing.take_turns.Given as goal

abbrev pub invariant-loop : goal.invariant-loop
invariant-loop g l = (goal.iterator-loop g).can_next l.iterator' × (goal.iterator-loop g).is_finite l.iterator' × AllFree g.H.Holder.is_free l.helds
