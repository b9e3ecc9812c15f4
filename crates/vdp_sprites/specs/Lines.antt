-- The sprites of a line of the picture, and what they set. Genesis Technical Overview, the display and sprites.
use Rattle.std.specs.Prelude.{ℕ, nat_lt, false, if◌then◌else◌, List, [], map}
use Rattle.std.specs.List.{range_with_len}
use Rattle.md_word.specs.Region.{picture_width}
use Rattle.vdp_planes.specs.Dots.{Dot}
use Rattle.vdp_planes.specs.View.{display_height}
use Rattle.vdp_planes.specs.declared.view.LineView.{LineView}
use Rattle.vdp_planes.specs.declared.view.SpriteNote.{SpriteNote}
use Rattle.vdp_sprites.specs.Sprites.{collides, overflow, parts, sprite_dot}

-- the dots of the sprites of a line; after the lines of the display none are drawn
unfoldable pub sprites_on : ℕ → LineView → List Dot
sprites_on y view = if nat_lt y (display_height view) then map (sprite_dot view y) (range_with_len 0 picture_width) else []

-- what they set
unfoldable pub note_on : ℕ → LineView → SpriteNote
note_on y view =
    if nat_lt y (display_height view) then record { overflow = overflow view y; collision = collides view y (parts view y) }
    else record { overflow = false; collision = false }
