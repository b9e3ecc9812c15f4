-- A line of sprite dots on its way.
use Rattle.std.specs.Prelude.{◌≡◌, ℕ, ◌+◌, ◌-◌, ◌*◌, ◌/◌, ◌%◌, ◌<◌, ◌≤◌, Bool, true, false, ◌||◌, ◌&&◌, not, if◌then◌else◌, List, ◌++◌, length}
use Rattle.md_word.specs.Region.{picture_width}
use Rattle.vdp_planes.specs.Dots.{Dot}
use Rattle.vdp_planes.specs.declared.view.LineView.{LineView}
use Rattle.vdp_planes.specs.View.{IsFilled, clear, dot_at, has_bit}
use Rattle.vdp_planes.specs.Planes.{pixel_of, width_of}
use Rattle.vdp_planes.specs.Mixing.{is_opaque}
use Rattle.vdp_sprites.specs.declared.sprite.Sprite.{Sprite}
use Rattle.vdp_sprites.specs.Sprites.{Part, any_below, collides, opaque_of, own_dot, part_dot, parts_from, reaches}

-- a sprite that shows so many pixels
abbrev pub part_of : Sprite → ℕ → Part
part_of sprite pixels = record { sprite = sprite; pixels = pixels }

-- a dot of a sprite by one of the eight pixels of a row of a cell
unfoldable pub pixel_dot : Sprite → ℕ → ℕ → Dot
pixel_dot s pixels column = record { colour = s.name / 8192 % 4 * 16 + pixel_of pixels column; priority = has_bit s.name 32768 }

-- a dot drawn where nothing opaque is
unfoldable pub over : Dot → Dot → Dot
over below dot = if is_opaque dot && not (is_opaque below) then dot else below

-- the places that a part reaches are those from `first` up to `last`
pub record IsReach (part : Part) (width first last : ℕ) : Type 0 where
  pub order : first ≤ last
  pub within : last ≤ width
  pub before : (x : ℕ) → x < first → reaches part x ≡ false
  pub inside : (x : ℕ) → first ≤ x → x < last → reaches part x ≡ true
  pub following : (x : ℕ) → last ≤ x → x < width → reaches part x ≡ false

-- a line's dots after a part was drawn
abbrev pub over_at : LineView → ℕ → Part → List Dot → ℕ → Dot
over_at view y part old x = over (dot_at old x) (part_dot view y x part)

-- whether a part meets what is there
abbrev pub meets_at : LineView → ℕ → Part → List Dot → ℕ → Bool
meets_at view y part old x = is_opaque (dot_at old x) && is_opaque (part_dot view y x part)

-- a line after a part was drawn up to a place, and whether it met something so far
pub record IsOver (view : LineView) (y to : ℕ) (part : Part) (old new : List Dot) (hit after : Bool) : Type 0 where
  pub dots : IsFilled clear 0 to old new (over_at view y part old)
  pub meets : after ≡ (hit || any_below to (meets_at view y part old))

-- the dots of a part from one place to another are those of a sprite by eight pixels, of which the one in
-- this column is first
pub record IsRun (view : LineView) (y : ℕ) (part : Part) (sprite : Sprite) (pixels column from to : ℕ) : Type 0 where
  pub sprite_is : part.sprite ≡ sprite
  pub reach : (x : ℕ) → from ≤ x → x < to → reaches part x ≡ true
  pub dots : (x : ℕ) → from ≤ x → x < to → pixel_dot sprite pixels (column + (x - from)) ≡ own_dot view y sprite x

-- a line after the parts of a list, and whether two of them met
pub record IsLine (view : LineView) (y : ℕ) (list : List Part) (line : List Dot) (hit : Bool) : Type 0 where
  pub whole : length line ≡ picture_width
  pub inside : (x : ℕ) → x < width_of view → dot_at line x ≡ dot_at (opaque_of view y list x) 0
  pub outside : (x : ℕ) → x < picture_width → width_of view ≤ x → dot_at line x ≡ clear
  pub meets : hit ≡ collides view y list

-- what is done and what is left make up the whole
pub record IsDrawing (view : LineView) (y : ℕ) (all : List Part) (left : ℕ) (before : Bool) (rest : List Sprite) (line : List Dot) (hit : Bool) : Type 0 where
  pub done : List Part
  pub whole : all ≡ done ++ parts_from left before rest
  pub line_done : IsLine view y done line hit
