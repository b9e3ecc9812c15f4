use Rattle.md_vgm.proofs.Outcomes.{played_once}
use Rattle.md_vgm.proofs.laws.files_have_one_outcome.Goals as goal

pub returns : goal.returns
returns c = played_once
