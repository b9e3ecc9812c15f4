use Rattle.md_chips.proofs.Counts.{journal-few}
use Rattle.md_chips.proofs.laws.few_entries.Goals as goal

pub returns : goal.returns
returns c = journal-few
