use Rattle.machine_laws.proofs.Timing.{timers-first}
use Rattle.machine_laws.proofs.timers.power_on_has_timers.Goals as goal

pub returns : goal.returns
returns c = λ cart recording pal at. timers-first at
