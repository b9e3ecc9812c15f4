-- A picture and how the events of the lines change it. Genesis Technical Overview, the display; the
-- bytes of a picture are this project's profile.
use Rattle.std.specs.Prelude.{ℕ, ◌+◌, ◌*◌, ◌/◌, ◌%◌, ◌==◌, nat_lt, Bool, true, false, if◌then◌else◌, List, map, replicate, slice_set, take, Option, Some}
use Rattle.std.specs.List.{range_with_len, replace_range}
use Rattle.md_word.specs.Region.{picture_length, picture_width, rows, scanline_length}
use Rattle.vdp_planes.specs.Dots.{Dot}
use Rattle.vdp_planes.specs.declared.view.LineView.{LineView}
use Rattle.vdp_planes.specs.Planes.{plane_dot}
use Rattle.vdp_planes.specs.Mixing.{line_byte}
use Rattle.vdp_planes.specs.View.{display_height, register}

-- the bytes that a picture takes, row by row: as many as one for PAL has
abbrev pub memory_length : ℕ
memory_length = 230400

-- a picture of which no row is drawn
abbrev pub blank : List ℕ
blank = replicate memory_length 0

-- the dots of a line of plane A with the window, or of plane B
unfoldable pub plane_dots : LineView → Bool → ℕ → List Dot
plane_dots view second y = map (plane_dot view second y) (range_with_len 0 picture_width)

-- a byte with bit 6 cleared
abbrev pub without_bit_6 : ℕ → ℕ
without_bit_6 byte = byte / 128 * 128 + byte % 64

-- a view with its display off, which is bit 6 of register 1
unfoldable pub hidden : LineView → LineView
hidden view = record view { registers = slice_set view.registers 1 (without_bit_6 (register view 1)) }

-- what a row is drawn from: after the lines of the display that is as where it is off
unfoldable pub on_scanline : ℕ → LineView → LineView
on_scanline y view = if nat_lt y (display_height view) then view else hidden view

-- a row as a view has line y, with these dots of the sprites
unfoldable pub line_scanline : LineView → List Dot → ℕ → List ℕ
line_scanline view sprites y = map (line_byte view (plane_dots view false y) (plane_dots view true y) sprites) (range_with_len 0 scanline_length)

-- row y of the picture
unfoldable pub scanline_of : LineView → List Dot → ℕ → List ℕ
scanline_of view sprites y = line_scanline (on_scanline y view) sprites y

-- a picture with another row y; the other rows stay
unfoldable pub with_scanline : ℕ → List ℕ → List ℕ → List ℕ
with_scanline y scanline picture = replace_range picture (scanline_length * y) (scanline_length * y + scanline_length) scanline

-- line 0 begins a picture
unfoldable pub cleared : ℕ → List ℕ → List ℕ
cleared line picture = if line == 0 then blank else picture

-- each line of the picture draws its row, the others none
unfoldable pub drawn : Bool → ℕ → List ℕ → List ℕ → List ℕ
drawn pal line scanline picture = if nat_lt line (rows pal) then with_scanline line scanline picture else picture

-- the frame is the rows of the region
abbrev pub frame_of : Bool → List ℕ → List ℕ
frame_of pal picture = take (picture_length pal) picture

-- the first line after the picture finishes it
unfoldable pub finished : Bool → ℕ → List ℕ → Option (List ℕ) → Option (List ℕ)
finished pal line picture frame = if line == rows pal then Some (frame_of pal picture) else frame
