use Rattle.z80_exec.proofs.Bounds.Samples.{asks, covers, most, waits}
use Rattle.z80_exec.proofs.laws.samples_are_bounded.Goals as goal

pub returns : goal.returns
returns c = record { covers = covers; most = most; waits = waits; asks = asks }
