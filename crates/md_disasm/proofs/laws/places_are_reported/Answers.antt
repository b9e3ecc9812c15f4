use Rattle.md_disasm.proofs.Reports.{place-reported}
use Rattle.md_disasm.proofs.laws.places_are_reported.Goals as goal

pub returns : goal.returns
returns c = place-reported
