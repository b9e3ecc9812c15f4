use Rattle.std.proofs.Common.{sym}
use Rattle.md_outer.proofs.Places.{name_at_number, name_added, name_kept}
use Rattle.md_outer.proofs.file_depot.number_for.Goals as goal

pub returns-in-Some-clause-named : goal.returns-in-Some-clause-named
returns-in-Some-clause-named g c = name_at_number _ _ _ (sym c.in-Some.ensures)

pub returns-clause-named : goal.returns-clause-named
returns-clause-named g c = name_added _ _ _ _ (c.in_ok-number.ensures.added) (c.in_ok-number.ensures.number)

pub returns-clause-kept : goal.returns-clause-kept
returns-clause-kept g c = λ number held. name_kept _ _ _ number (c.in_ok-number.ensures.added) held
