use Rattle.std.proofs.Common.{◌≡◌, ℕ, ◌<◌}
use Rattle.md_rollback.specs.Inputs.{frame_at}
use Rattle.md_rollback.proofs.frames.same_frames.Given as goal

abbrev pub invariant-loop-frame : goal.invariant-loop-frame
invariant-loop-frame l = (f : ℕ) → f < l.frame → frame_at l.played f ≡ frame_at l.expected f
