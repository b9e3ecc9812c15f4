use Rattle.std.proofs.Common.{◌≡◌, ◌<◌, ◌≤◌, ◌+◌, ◌-◌, ◌%◌}
use Rattle.vdp_planes.specs.View.{IsFilled, clear, seen}
use Rattle.vdp_planes.specs.Planes.{scrolled_dot}
use Rattle.vdp_planes.specs.Rows.{KeepsRow}
use Rattle.vdp_planes.proofs.scroll.draw_column.Given as goal

abbrev pub invariant-loop-x : goal.invariant-loop-x
invariant-loop-x l = record {
  drawn : IsFilled clear l.from l.x l.initial.out l.out (scrolled_dot (seen l.scene) l.scroll.second l.scroll.y);
  further : l.from ≤ l.x;
  most : l.x ≤ l.to;
  begins : l.x < l.to → (l.x + l.scroll.shift) % 8 ≡ 0;
  kept : KeepsRow (seen l.scene) (l.py % 8) l.kept;
}

abbrev pub decreases-loop-x : goal.decreases-loop-x
decreases-loop-x l = l.to - l.x
