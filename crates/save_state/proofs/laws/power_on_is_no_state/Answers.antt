use Rattle.save_state.proofs.PowerOn.{first_is_none, first_settled}
use Rattle.save_state.proofs.laws.power_on_is_no_state.Goals as goal

pub returns-clause-settled : goal.returns-clause-settled
returns-clause-settled c = first_settled

pub returns-clause-none : goal.returns-clause-none
returns-clause-none c = λ cart recording pal start is. first_is_none cart recording pal start is
