-- The dots of the two planes and of the window, each a function of the view and its place. Genesis
-- Technical Overview, patterns, scrolling and the window.
use Rattle.std.specs.Prelude.{ℕ, ◌+◌, ◌-◌, ◌*◌, ◌/◌, ◌%◌, ◌^◌, Bool, false, ◌==◌, ◌||◌, nat_lt, nat_le, if◌then◌else◌, slice_index}
use Rattle.vdp_planes.specs.Dots.{Dot}
use Rattle.vdp_planes.specs.declared.view.LineView.{LineView}
use Rattle.vdp_planes.specs.View.{clear, has_bit, register, word_at}

-- a pixel of a pattern: 32 bytes a pattern, four a row, two pixels a byte, the left one in the upper half
unfoldable pub pattern_index : LineView → ℕ → ℕ → ℕ → ℕ
pattern_index view pattern column row =
    let byte = slice_index view.vram (pattern * 32 + row * 4 + column / 2) in
    if (column % 2 == 0) then byte / 16 % 16 else byte % 16

-- a row or column, from the other side where it is flipped
unfoldable pub turned : Bool → ℕ → ℕ
turned flip n = if flip then 7 - n else n

-- a dot of a cell by its name, whose bits are 15 priority, 14 and 13 palette, 12 and 11 flips, 10 to 0 pattern
unfoldable pub cell_dot : LineView → ℕ → ℕ → ℕ → Dot
cell_dot view name column row = record {
  colour = name / 8192 % 4 * 16 + pattern_index view (name % 2048) (turned (has_bit name 2048) column) (turned (has_bit name 4096) row);
  priority = has_bit name 32768;
}

-- the cells of a side by its two bits
unfoldable pub cells_of : ℕ → ℕ
cells_of bits = if (bits == 1) then 64 else (if (bits == 3) then 128 else 32)

-- dots of a line without borders
unfoldable pub width_of : LineView → ℕ
width_of view = if has_bit (register view 12) 1 then 320 else 256

-- plane A is the first and plane B the second
unfoldable pub plane_number : Bool → ℕ
plane_number second = if second then 1 else 0

-- where a plane's names are
unfoldable pub plane_base : LineView → Bool → ℕ
plane_base view second = if second then register view 4 % 8 * 8192 else register view 2 / 8 % 8 * 8192

-- the line whose scroll entry a line takes: the first, the first of eight, or its own
unfoldable pub scroll_place : ℕ → ℕ → ℕ
scroll_place mode y = if (mode == 2) then y - y % 8 else (if (mode == 3) then y else 0)

-- the horizontal scroll of a line
unfoldable pub across : LineView → Bool → ℕ → ℕ
across view second y =
    word_at view (register view 13 % 64 * 1024 + 4 * scroll_place (register view 11 % 4) y + 2 * plane_number second)

-- the vertical scroll at x: one for the plane, or one for each 16 dots
unfoldable pub down : LineView → Bool → ℕ → ℕ
down view second x =
    slice_index view.vsram (plane_number second + (if has_bit (register view 11) 4 then 2 * (x / 16) else 0))

-- the point of the plane across: x less the scroll, modulo the width, of which 65,536 is a multiple
unfoldable pub point_x : LineView → Bool → ℕ → ℕ → ℕ
point_x view second y x = (x + (65536 - across view second y)) % (cells_of (register view 16 % 4) * 8)

-- the point of the plane down
unfoldable pub point_y : LineView → Bool → ℕ → ℕ → ℕ
point_y view second y x = (y + down view second x) % (cells_of (register view 16 / 16 % 4) * 8)

-- where the name of a point is; a table has at most 4,096
unfoldable pub name_place : LineView → Bool → ℕ → ℕ → ℕ
name_place view second px py =
    plane_base view second + 2 * ((py / 8 * cells_of (register view 16 % 4) + px / 8) % 4096)

-- the dot of a plane
unfoldable pub scrolled_dot : LineView → Bool → ℕ → ℕ → Dot
scrolled_dot view second y x =
    let px = point_x view second y x in
    let py = point_y view second y x in
    cell_dot view (word_at view (name_place view second px py)) (px % 8) (py % 8)

-- whether a place is below an edge, or from it on
unfoldable pub side : Bool → ℕ → ℕ → Bool
side from edge n = if from then nat_le edge n else nat_lt n edge

-- whether the window takes plane A's place: by register 17 across or by register 18 down
unfoldable pub in_window : LineView → ℕ → ℕ → Bool
in_window view y x =
    side (has_bit (register view 17) 128) (16 * (register view 17 % 32)) x
    || side (has_bit (register view 18) 128) (8 * (register view 18 % 32)) y

-- where the window's name of a point is: 64 cells a row in the 320 mode, else 32
unfoldable pub window_place : LineView → ℕ → ℕ → ℕ
window_place view y x =
    if has_bit (register view 12) 1
    then register view 3 / 4 % 16 * 4096 + 2 * ((y / 8 * 64 + x / 8) % 4096)
    else register view 3 / 2 % 32 * 2048 + 2 * ((y / 8 * 32 + x / 8) % 4096)

-- the dot of the window, which does not scroll
unfoldable pub window_dot : LineView → ℕ → ℕ → Dot
window_dot view y x = cell_dot view (word_at view (window_place view y x)) (x % 8) (y % 8)

-- plane A with the window, or plane B; clear beside the picture
unfoldable pub plane_dot : LineView → Bool → ℕ → ℕ → Dot
plane_dot view second y x =
    if nat_lt x (width_of view)
    then (if (if second then false else in_window view y x) then window_dot view y x else scrolled_dot view second y x)
    else clear

-- the dots of a row of a cell, of which the one in this column is at `start`
abbrev pub run_dot : LineView → ℕ → ℕ → ℕ → ℕ → ℕ → Dot
run_dot view name column row start x = cell_dot view name (column + (x - start)) row

-- a digit of eight in hexadecimal, from the left
unfoldable pub pixel_of : ℕ → ℕ → ℕ
pixel_of pixels column = pixels / 2 ^ (28 - 4 * column) % 16

-- the dots of a name from eight such pixels, of which the one in this column is at `start`
abbrev pub pixel_dot : ℕ → ℕ → ℕ → ℕ → ℕ → Dot
pixel_dot name pixels column start x = record {
  colour = name / 8192 % 4 * 16 + pixel_of pixels (column + (x - start));
  priority = has_bit name 32768;
}
