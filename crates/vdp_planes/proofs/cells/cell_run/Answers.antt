use Rattle.std.proofs.Common.{◌≡◌, ◌+◌, arith}
use Rattle.vdp_planes.specs.View.{seen}
use Rattle.vdp_planes.proofs.Runs.{pixels_drawn}
use Rattle.vdp_planes.proofs.cells.cell_run.Goals as goal

pub returns-then-to-from : goal.returns-then-to-from
returns-then-to-from c =
    let first : c.args.column ≡ 0 = omega arith in
    let end : c.args.to ≡ c.args.from + 8 = c.if-to-from.true in
    rw (first, end)
    (pixels_drawn (seen c.args.scene.now) c.args.name c.row_pixels-pixels.result 0 c.args.row c.args.from (c.args.from + 8) _ _ (omega arith)
    (rw c.turned-line.ensures.value at c.row_pixels-pixels.ensures) (rw (c.row_with.ensures.name, c.row_with.ensures.pixels) at c.put_row.ensures))

pub returns-else-to-from : goal.returns-else-to-from
returns-else-to-from c =
    pixels_drawn (seen c.args.scene.now) c.args.name c.row_pixels-pixels.result c.args.column c.args.row c.args.from c.args.to _ _ c.requires.cell
    (rw c.turned-line.ensures.value at c.row_pixels-pixels.ensures) c.pixel_run.ensures
