use Rattle.md_outer.specs.Listed.{listed_files}
use Rattle.md_outer.proofs.mem_depot.MemDepotDepot.begin.Goals as goal

pub returns-in-Some-clause-emptied : goal.returns-in-Some-clause-emptied
returns-in-Some-clause-emptied c = c.clear.ensures.files c.args.name.now (listed_files c.args.self.now.given.items) (rw c.in-Some.is at c.number_of-known.ensures.named)

pub returns-in_ok-add-in-None-clause-emptied : goal.returns-in_ok-add-in-None-clause-emptied
returns-in_ok-add-in-None-clause-emptied c = c.in_ok-add-in-None.ensures.files (listed_files c.args.self.now.given.items)
