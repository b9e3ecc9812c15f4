use Rattle.std.proofs.Common.{◌+◌, sym, arith}
use Rattle.vdp_planes.specs.View.{seen}
use Rattle.vdp_planes.proofs.Runs.{pixels_drawn}
use Rattle.vdp_planes.proofs.cells.cell_row.Goals as goal

pub returns-clause-drawn : goal.returns-clause-drawn
returns-clause-drawn c =
    rw (sym c.turn_to.ensures.name)
    (pixels_drawn (seen c.args.scene.now) c.turn_to.new.kept.name c.turn_to.new.kept.pixels 0 c.args.row c.args.from (c.args.from + 8) _ _ (omega arith)
    c.turn_to.ensures.row.pixels c.put_row.ensures)
