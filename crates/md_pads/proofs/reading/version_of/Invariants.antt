use Rattle.md_pads.proofs.Walks.{Walked}
use Rattle.md_pads.proofs.reading.version_of.Given as goal

abbrev pub invariant-loop-version : goal.invariant-loop-version
invariant-loop-version l = Walked l.bytes l.version-index l.longest
