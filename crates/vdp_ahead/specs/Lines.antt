-- A line of the picture with its sprites. Genesis Technical Overview, the display and sprites.
use Rattle.std.specs.Prelude.{ℕ, List}
use Rattle.vdp_planes.specs.declared.view.LineView.{LineView}
use Rattle.vdp_sprites.specs.Lines.{sprites_on}
use Rattle.vdp_chip.specs.Picture.{scanline_of}

-- the scanline of the picture
abbrev pub scanline_on : ℕ → LineView → List ℕ
scanline_on y view = scanline_of view (sprites_on y view) y
