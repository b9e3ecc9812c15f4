use Rattle.std.proofs.Common.{◌≡◌, ◌+◌, ◌-◌, ◌*◌, ◌/◌}
use Rattle.vdp_planes.specs.View.{has_bit, seen}
use Rattle.vdp_sprites.specs.Sprites.{within}
use Rattle.vdp_sprites.proofs.Celled.{own_cell}
use Rattle.vdp_sprites.proofs.parts.cell_pixels.Goals as goal

pub returns : goal.returns
returns c =
    let s = c.args.sprite in
    let e : c.within-across.result ≡ within (has_bit s.name 2048) s.width ((c.args.x + 128 - s.x) / 8) = cc in
    let f : c.within-down.result ≡ within (has_bit s.name 4096) (8 * s.height) (c.args.y + 128 - s.y) = cc in
    λ i low high. own_cell (seen c.args.scene.now) c.args.y s c.args.x i c.row_pixels.result c.within-across.result c.within-down.result
    c.requires.left c.requires.right low high e f (rw (c.from-name.ensures, c.from-height.ensures) at c.row_pixels.ensures)
