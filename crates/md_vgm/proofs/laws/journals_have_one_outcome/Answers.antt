use Rattle.md_vgm.proofs.Outcomes.{made_once}
use Rattle.md_vgm.proofs.laws.journals_have_one_outcome.Goals as goal

pub returns : goal.returns
returns c = made_once
