use Rattle.std.proofs.Common.{◌≡◌, ℕ, List, ◌++◌, length}
use Rattle.std.specs.Io.KnownBytes.{Appends}
use Rattle.md_outer.proofs.transfer.write_whole.Given as goal

-- what is gone from the rest was written
abbrev pub invariant-writing : goal.invariant-writing
invariant-writing g l = (done : List ℕ) × (l.piece ≡ done ++ l.rest) × Appends (g.W.Write.contents l.initial.to) (g.W.Write.contents l.to) done

abbrev pub decreases-writing : goal.decreases-writing
decreases-writing g l = length l.rest
