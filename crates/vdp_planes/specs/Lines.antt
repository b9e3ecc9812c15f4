-- The dots beside the picture.
use Rattle.std.specs.Prelude.{ℕ}
use Rattle.vdp_planes.specs.Dots.{Dot}
use Rattle.vdp_planes.specs.View.{clear}

-- nothing is beside the picture
abbrev pub clear_at : ℕ → Dot
clear_at x = clear
