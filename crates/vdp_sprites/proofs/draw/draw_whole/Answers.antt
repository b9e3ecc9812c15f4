use Rattle.std.proofs.Common.{◌∙◌, ◌+◌, ap, arith}
use Rattle.vdp_sprites.specs.Drawn.{pixel_dot}
use Rattle.vdp_sprites.proofs.Parted.{over_next}
use Rattle.vdp_sprites.proofs.draw.draw_whole.Goals as goal

pub loop-column-preserved : goal.loop-column-preserved
loop-column-preserved c =
    λ view y part old before run begun.
    over_next view y (c.args.from + c.loop-column.column) _ part c.args.sprite c.args.pixels 0 c.args.from (c.args.from + 8) old c.loop-column.out before c.loop-column.hit c.meeting-hit.result _ c.pixel_dot-dot.result c.over.result
    run (c.loop-column.invariant view y part old before run begun) (omega arith) (omega arith) (omega arith) (omega arith)
    (c.pixel_dot-dot.ensures.value ∙ ap (pixel_dot c.args.sprite c.args.pixels) (omega arith)) c.over.ensures c.meeting-hit.ensures
