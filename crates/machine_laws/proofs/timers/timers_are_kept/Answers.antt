use Rattle.std.proofs.Common.{subst, sym}
use Rattle.md_chips.specs.Console.{Console}
use Rattle.machine_laws.specs.Timers.{HasTimers}
use Rattle.machine_laws.proofs.Timing.{timers-kept}
use Rattle.machine_laws.proofs.timers.timers_are_kept.Goals as goal

pub returns : goal.returns
returns c = λ start z end entries output has later run.
    subst (λ (w : Console). HasTimers end w) (sym run.console) (timers-kept start.at end start.console run.moves later run.below has)
