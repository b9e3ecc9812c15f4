use Rattle.vdp_planes.specs.View.{IsFilled, clear}
use Rattle.vdp_planes.specs.Planes.{pixel_dot}
use Rattle.vdp_planes.proofs.cells.pixel_run.Given as goal

abbrev pub invariant-loop-x : goal.invariant-loop-x
invariant-loop-x l = IsFilled clear l.from l.x l.initial.out l.out (pixel_dot l.name l.pixels l.column l.from)
