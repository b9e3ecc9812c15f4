use Rattle.machine_laws.proofs.Spelled.{fm_timed}
use Rattle.machine_laws.proofs.timers.timers_of_states.Goals as goal

pub returns : goal.returns
returns c = λ at bytes m p. fm_timed at bytes m.shared.fm p
