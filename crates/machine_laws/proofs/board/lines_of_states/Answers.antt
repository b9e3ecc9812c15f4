use Rattle.bus_shared.proofs.Keeping.{spelled_lines}
use Rattle.machine_laws.proofs.board.lines_of_states.Goals as goal

pub returns : goal.returns
returns c = λ at pal bytes m p buttons. (let has = spelled_lines at pal bytes m.shared p in record { resets = has.0; recording = buttons; pads = has.1; falls1 = has.2; falls2 = has.3 })
