use Rattle.std.proofs.Common.{◌≡◌}
use Rattle.md_asm.specs.Places.{any_written}
use Rattle.md_asm.specs.Seen.{cells_seen}
use Rattle.md_asm.proofs.cells.Cells.any.Given as goal

abbrev pub invariant-loop-left : goal.invariant-loop-left
invariant-loop-left l = any_written (cells_seen l.self) l.at l.left ≡ any_written (cells_seen l.self) l.place l.long

abbrev pub decreases-loop-left : goal.decreases-loop-left
decreases-loop-left l = l.left
