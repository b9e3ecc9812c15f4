use Rattle.std.proofs.Common.{ℕ, ◌+◌, Bool, List}
use Rattle.vdp_planes.specs.Dots.{Dot}
use Rattle.vdp_planes.specs.declared.view.LineView.{LineView}
use Rattle.vdp_sprites.specs.Sprites.{Part}
use Rattle.vdp_sprites.specs.Drawn.{IsOver, IsRun}
use Rattle.vdp_sprites.proofs.draw.draw_whole.Given as goal

abbrev pub invariant-loop-column : goal.invariant-loop-column
invariant-loop-column l =
    (view : LineView) (y : ℕ) (part : Part) (old : List Dot) (before : Bool) → IsRun view y part l.sprite l.pixels 0 l.from (l.from + 8)
    → IsOver view y l.from part old l.initial.out before l.initial.hit
    → IsOver view y (l.from + l.column) part old l.out before l.hit
