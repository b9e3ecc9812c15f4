use Rattle.std.proofs.Common.{refl, sym}
use Rattle.state_laws.proofs.Whole.{one_machine}
use Rattle.state_laws.proofs.verdicts.states_keep_one_machine.Goals as goal

pub returns : goal.returns
returns c = λ cart bytes a b s t pads. one_machine cart a.console.shared.recording bytes a b s refl t (sym pads)
