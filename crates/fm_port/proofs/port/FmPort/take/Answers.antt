use Rattle.fm_port.proofs.Ports.{IsPort-left, IsInOrder-taken, IsInOrder-left}
use Rattle.fm_port.proofs.port.FmPort.take.Goals as goal

pub invariant_of-self : goal.invariant_of-self
invariant_of-self c = rw c.take_below.ensures.left (IsPort-left _ c.args.cycle c.self.invariant)

pub returns-clause-port : goal.returns-clause-port
returns-clause-port c = invariant_of-self c

pub returns-clause-order : goal.returns-clause-order
returns-clause-order c = λ low high o. IsInOrder-taken low high c.args.cycle _ _ _ c.self.view_is c.take_below.ensures.taken o

pub returns-clause-left_order : goal.returns-clause-left_order
returns-clause-left_order c = λ low high o. IsInOrder-left low high c.args.cycle _ _ _ c.self.view_is c.take_below.ensures.left o
