use Rattle.machine_laws.proofs.SettledMoves.{moved-same, reported-alike, rendered-alike}
use Rattle.machine_laws.proofs.settling.moves_see_no_settling.Goals as goal

pub returns-clause-moved : goal.returns-clause-moved
returns-clause-moved c = moved-same

pub returns-clause-reported : goal.returns-clause-reported
returns-clause-reported c = reported-alike

pub returns-clause-rendered : goal.returns-clause-rendered
returns-clause-rendered c = rendered-alike
