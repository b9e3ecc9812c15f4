use Rattle.bus_shared.proofs.Unseen.{unseen}
use Rattle.bus_shared.proofs.laws.settling_is_unseen.Goals as goal

pub returns : goal.returns
returns c = unseen
