use Rattle.std.proofs.Common.{arith}
use Rattle.vdp_sprites.proofs.Parted.{over_next}
use Rattle.vdp_sprites.proofs.draw.draw_run.Goals as goal

pub loop-x-preserved : goal.loop-x-preserved
loop-x-preserved c =
    λ view y part old before run begun.
    over_next view y c.loop-x.x _ part c.args.sprite c.args.pixels c.args.column c.args.from c.args.to old c.loop-x.out before c.loop-x.hit c.meeting-hit.result _ c.pixel_dot-dot.result c.over.result
    run (c.loop-x.invariant view y part old before run begun) (omega arith) (omega arith) (omega arith) (omega arith)
    c.pixel_dot-dot.ensures.value c.over.ensures c.meeting-hit.ensures
