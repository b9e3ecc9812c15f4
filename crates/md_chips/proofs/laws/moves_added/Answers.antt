use Rattle.md_chips.proofs.Joined.{journal-add, media-add, ran-add}
use Rattle.md_chips.proofs.laws.moves_added.Goals as goal

pub returns-clause-machine : goal.returns-clause-machine
returns-clause-machine c = ran-add

pub returns-clause-entries : goal.returns-clause-entries
returns-clause-entries c = journal-add

pub returns-clause-output : goal.returns-clause-output
returns-clause-output c = media-add
