use Rattle.std.proofs.Common.{sym, arith}
use Rattle.md_chips.specs.Console.{mover, ran}
use Rattle.md_chips.specs.Movers.{mover-lt}
use Rattle.save_state.specs.States.{settled_console}
use Rattle.machine_laws.proofs.SettledMoves.{console-again}
use Rattle.machine_laws.proofs.SettledRuns.{settled-goes-on}
use Rattle.machine_laws.proofs.settling.settled_machines_go_on.Goals as goal

pub returns : goal.returns
returns c = λ m z at end entries output parts quiet order small run.
    settled-goes-on at end m (settled_console at m) z entries output (sym (console-again at m)) order run
    (λ k less. c.quiet_stays.ensures m at end k small parts quiet (λ j lower. run.below j (omega arith)) (mover (ran m k)) (mover-lt (ran m k)))
