use Rattle.std.proofs.Common.{arith}
use Rattle.md_chips.specs.Console.{mover, ran}
use Rattle.md_chips.specs.Movers.{mover-lt}
use Rattle.machine_laws.proofs.SettledRuns.{settled-goes-on}
use Rattle.state_laws.proofs.settled.alike_machines_go_on.Goals as goal

pub returns : goal.returns
returns c = λ m w z at end entries output parts quiet order small same run.
    settled-goes-on at end m w z entries output same order run
    (λ k less. c.quiet_stays.ensures m at end k small parts quiet (λ j lower. run.below j (omega arith)) (mover (ran m k)) (mover-lt (ran m k)))
