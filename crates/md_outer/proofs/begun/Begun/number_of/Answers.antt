use Rattle.md_outer.specs.Begun.{begun_names}
use Rattle.md_outer.proofs.Places.{name_at_found}
use Rattle.md_outer.proofs.begun.Begun.number_of.Goals as goal

pub returns-clause-named : goal.returns-clause-named
returns-clause-named c = name_at_found (begun_names c.args.self.now) c.args.name.now c.number_of.result c.number_of.ensures
