-- What a dot of the picture shows, and the bytes that it prints. Genesis Technical Overview, priority,
-- shadow and highlight; the bytes of a level are this project's profile.
use Rattle.std.specs.Prelude.{◌≡◌, ℕ, ◌+◌, ◌-◌, ◌*◌, ◌/◌, ◌%◌, ◌<◌, ◌≤◌, Bool, false, ◌==◌, ◌||◌, ◌&&◌, not, nat_lt, nat_le, if◌then◌else◌, List, [], ◌∷◌, slice_index, slice_index_or}
use Rattle.md_word.specs.Region.{picture_width}
use Rattle.vdp_planes.specs.Dots.{Dot}
use Rattle.vdp_planes.specs.declared.view.LineView.{LineView}
use Rattle.vdp_planes.specs.declared.colours.Rgb.{Rgb}
use Rattle.vdp_planes.specs.declared.colours.Shade.{Shade}
use Rattle.vdp_planes.specs.declared.colours.Shade.TheVariants as shades
use Rattle.vdp_planes.specs.View.{dot_at, has_bit, register}
use Rattle.vdp_planes.specs.Planes.{width_of}

-- index 0 is transparent
unfoldable pub is_opaque : Dot → Bool
is_opaque d = not (d.colour % 16 == 0)

-- opaque and with priority
unfoldable pub is_prefix : Dot → Bool
is_prefix d = is_opaque d && d.priority

-- the colour in front but for the sprite, in this order: A and B with priority, A and B without, backdrop
unfoldable pub following : ℕ → Dot → Dot → ℕ
following back a b =
    if is_prefix a then a.colour else (
    if is_prefix b then b.colour else (
    if is_opaque a then a.colour else (
    if is_opaque b then b.colour else back)))

-- whether the sprite is in front, in this order: sprite, A, B with priority; sprite, A, B without
unfoldable pub sprite_leads : Dot → Dot → Dot → Bool
sprite_leads a b s = is_opaque s && (s.priority || not (is_prefix a || is_prefix b))

-- a colour, and how bright it is shown
pub record ShadedColour : Type 0 where
  pub colour : ℕ
  pub shade : Shade

-- a colour at a brightness
abbrev pub at_shade : ℕ → Shade → ShadedColour
at_shade colour shade = record { colour = colour; shade = shade }

-- one step brighter
abbrev pub brighter : Shade → Shade
brighter shades.Shadow = shades.Normal
brighter shades.Normal = shades.Highlight
brighter shades.Highlight = shades.Highlight

-- the shade of planes and backdrop: shadow where neither plane has priority
unfoldable pub base_shade : Dot → Dot → Shade
base_shade a b = if a.priority || b.priority then shades.Normal else shades.Shadow

-- what the sprite in front shows over the colour `under`: 62 brightens it, 63 darkens it
unfoldable pub shaded_sprite : ℕ → Shade → Dot → ShadedColour
shaded_sprite under base s =
    if (s.colour == 62) then at_shade under (brighter base) else (
    if (s.colour == 63) then at_shade under shades.Shadow else (
    if s.priority || (s.colour % 16 == 14) then at_shade s.colour shades.Normal else at_shade s.colour base))

-- what a dot shows with shadow and highlight
unfoldable pub shaded : ℕ → Dot → Dot → Dot → ShadedColour
shaded back a b s =
    if sprite_leads a b s then shaded_sprite (following back a b) (base_shade a b) s else at_shade (following back a b) (base_shade a b)

-- what a dot shows without shadow and highlight
unfoldable pub unshaded : ℕ → Dot → Dot → Dot → ShadedColour
unshaded back a b s = at_shade (if sprite_leads a b s then s.colour else following back a b) shades.Normal

-- the colour behind all
unfoldable pub backdrop : LineView → ℕ
backdrop view = register view 7 % 64

-- what a dot of the picture shows
unfoldable pub mixed : LineView → Dot → Dot → Dot → ShadedColour
mixed view a b s = if has_bit (register view 12) 8 then shaded (backdrop view) a b s else unshaded (backdrop view) a b s

-- where the picture begins on the screen
unfoldable pub border_of : LineView → ℕ
border_of view = if has_bit (register view 12) 1 then 0 else 32

-- whether x of the screen shows the picture: no border, and display on
unfoldable pub in_picture : LineView → ℕ → Bool
in_picture view x = has_bit (register view 1) 64 && (nat_le (border_of view) x && nat_lt x (border_of view + width_of view))

-- what a place of the screen shows: the picture, or the backdrop
unfoldable pub shown_at : LineView → List Dot → List Dot → List Dot → ℕ → ShadedColour
shown_at view a b s x =
    let dot = x - border_of view in
    if in_picture view x then mixed view (dot_at a dot) (dot_at b dot) (dot_at s dot) else at_shade (backdrop view) shades.Normal

-- a level of 0 to 7 as a byte
abbrev pub printed : Shade → ℕ → ℕ
printed shades.Shadow v = 18 * v
printed shades.Normal v = 36 * v
printed shades.Highlight v = 126 + 18 * v

-- a colour's bytes: blue in bits 11 to 9, green 7 to 5, red 3 to 1
unfoldable pub rgb_of : LineView → ShadedColour → Rgb
rgb_of view s = let word = slice_index view.cram s.colour in record {
  red = printed s.shade (word / 2 % 8);
  green = printed s.shade (word / 32 % 8);
  blue = printed s.shade (word / 512 % 8);
}

-- the first, second or third byte of a colour
abbrev pub part : Rgb → ℕ → ℕ
part c n = if (n == 0) then c.red else (if (n == 1) then c.green else c.blue)

-- byte n of the line's 960
unfoldable pub line_byte : LineView → List Dot → List Dot → List Dot → ℕ → ℕ
line_byte view a b s n = part (rgb_of view (shown_at view a b s (n / 3))) (n % 3)

-- byte n of a line on which the backdrop alone shows
unfoldable pub backdrop_byte : LineView → ℕ → ℕ
backdrop_byte view n = part (rgb_of view (at_shade (backdrop view) shades.Normal)) (n % 3)

-- the number of a shade: of each there are 64 among the 192 colours that a line can show
abbrev pub shade_number : Shade → ℕ
shade_number shades.Shadow = 0
shade_number shades.Normal = 1
shade_number shades.Highlight = 2

-- a colour's number among the 192
unfoldable pub index_of : ShadedColour → ℕ
index_of s = 64 * shade_number s.shade + s.colour

-- a shade by its number
abbrev pub shade_by : ℕ → Shade
shade_by n = if (n == 0) then shades.Shadow else (if (n == 1) then shades.Normal else shades.Highlight)

-- colour number n of the 192
unfoldable pub table_colour : LineView → ℕ → Rgb
table_colour view n = rgb_of view (at_shade (n % 64) (shade_by (n / 64)))

-- a colour's bytes in a table: its three, and one that no dot shows
abbrev pub entry_of : Rgb → List ℕ
entry_of c = c.red ∷ c.green ∷ c.blue ∷ 0 ∷ []

-- whether a dot can show a shade: without shadow and highlight the normal one alone
abbrev pub IsSeen : LineView → Shade → Type 0
IsSeen view shade = has_bit (register view 12) 8 ≡ false → shade ≡ shades.Normal

-- the number of the colour that a place of the screen shows
unfoldable pub index_at : LineView → List Dot → List Dot → List Dot → ℕ → ℕ
index_at view a b s x = index_of (shown_at view a b s x)

-- where the picture is on the screen's line
pub record IsSpan (view : LineView) (from to : ℕ) : Type 0 where
  pub order : from ≤ to
  pub within : to ≤ picture_width
  pub border : from < to → from ≡ border_of view
  pub covers : (x : ℕ) → x < picture_width → in_picture view x ≡ (nat_le from x && nat_lt x to)

-- the number that a place of the backdrop shows
abbrev pub back_at : ℕ → ℕ → ℕ
back_at back x = index_of (at_shade back shades.Normal)

-- the number that a place of the picture, which begins at `from`, shows without shadow and
-- highlight
abbrev pub unshaded_at : ℕ → List Dot → List Dot → List Dot → ℕ → ℕ → ℕ
unshaded_at back a b s from x = index_of (unshaded back (dot_at a (x - from)) (dot_at b (x - from)) (dot_at s (x - from)))

-- the same with shadow and highlight
abbrev pub shaded_at : ℕ → List Dot → List Dot → List Dot → ℕ → ℕ → ℕ
shaded_at back a b s from x = index_of (shaded back (dot_at a (x - from)) (dot_at b (x - from)) (dot_at s (x - from)))

-- the same by the mode, which is bit 3 of register 12
abbrev pub mixed_at : LineView → List Dot → List Dot → List Dot → ℕ → ℕ → ℕ
mixed_at view a b s from x = index_of (mixed view (dot_at a (x - from)) (dot_at b (x - from)) (dot_at s (x - from)))

-- byte n of the dots of these indices
abbrev pub printed_byte : List (List ℕ) → List ℕ → ℕ → ℕ
printed_byte table line n = slice_index (slice_index_or table (slice_index line (n / 3)) []) (n % 3)
