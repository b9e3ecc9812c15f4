use Rattle.std.proofs.Common.{◌≡◌, length, rules}
use Rattle.md_word.specs.Region.{scanline_length}
use Rattle.vdp_planes.specs.View.{seen}
use Rattle.vdp_chip.proofs.Scanlines.{scanline_made}
use Rattle.vdp_chip.proofs.picture.fill_line.Goals as goal

pub returns : goal.returns
returns c =
    let scanline = c.mix_dots.new.rgb in
    let whole : length scanline ≡ scanline_length = search rules in
    scanline_made (seen c.args.scene.now) c.draw_planes.new.a c.draw_planes.new.b c.args.sprites.now c.args.line scanline whole
    c.draw_planes.ensures.first c.draw_planes.ensures.second c.mix_dots.ensures
