use Rattle.state_laws.proofs.ReachedSettled.{reached-settled}
use Rattle.state_laws.proofs.settled.settled_machines_are_reached.Goals as goal

pub returns : goal.returns
returns c = reached-settled
