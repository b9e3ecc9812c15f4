use Rattle.std.proofs.Common.{ℕ, ◌<◌}
use Rattle.md_rollback.specs.Images.{image_at}
use Rattle.md_rollback.proofs.kept_images.KeptImages.newer_than.Given as goal

abbrev pub invariant-loop-newer : goal.invariant-loop-newer
invariant-loop-newer l = (j : ℕ) → j < l.newer → l.frames < (image_at l.self.images j).frames
