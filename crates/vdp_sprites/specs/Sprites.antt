-- The sprites of a line, as lists. Genesis Technical Overview, sprites.
use Rattle.std.specs.Prelude.{ℕ, zero, suc, ◌+◌, ◌-◌, ◌*◌, ◌/◌, ◌%◌, Bool, false, ◌==◌, ◌||◌, ◌&&◌, not, nat_lt, nat_le, min, if◌then◌else◌, List, [], ◌∷◌, filter, map, take, length, sum_by, Option, Some, None}
use Rattle.vdp_planes.specs.Dots.{Dot}
use Rattle.vdp_planes.specs.declared.view.LineView.{LineView}
use Rattle.vdp_planes.specs.View.{clear, dot_at, has_bit, register, word_at}
use Rattle.vdp_planes.specs.Planes.{pattern_index, width_of}
use Rattle.vdp_planes.specs.Mixing.{is_opaque}
use Rattle.vdp_sprites.specs.declared.sprite.Sprite.{Sprite}

-- how many sprites the list has at most, in the 320 mode and in the 256 mode
unfoldable pub most_listed : LineView → ℕ
most_listed view = if has_bit (register view 12) 1 then 80 else 64

-- how many sprites a line shows at most
unfoldable pub most_chosen : LineView → ℕ
most_chosen view = if has_bit (register view 12) 1 then 20 else 16

-- where the table is: bits 6 to 0 of register 5, in the 320 mode without bit 0
unfoldable pub table_base : LineView → ℕ
table_base view = if has_bit (register view 12) 1 then register view 5 / 2 % 64 * 1024 else register view 5 % 128 * 512

-- a sprite by its number: Y, size and link, name, X
unfoldable pub sprite_at : LineView → ℕ → Sprite
sprite_at view number = let at = table_base view + 8 * number in record {
  y = word_at view at % 512;
  x = word_at view (at + 6) % 512;
  name = word_at view (at + 4);
  width = word_at view (at + 2) / 1024 % 4 + 1;
  height = word_at view (at + 2) / 256 % 4 + 1;
  link = word_at view (at + 2) % 128;
}

-- the next sprite in the list: a link of 0, or one past the table, ends it
unfoldable pub next_of : LineView → Sprite → Option ℕ
next_of view sprite = if (sprite.link == 0) || nat_le (most_listed view) sprite.link then None else Some sprite.link

-- the list from a place on, at most so many
unfoldable pub listed : LineView → ℕ → Option ℕ → List Sprite
listed view zero place = []
listed view (suc left) None = []
listed view (suc left) (Some number) = sprite_at view number ∷ listed view left (next_of view (sprite_at view number))

-- whether a sprite covers a line
unfoldable pub covers : ℕ → Sprite → Bool
covers y sprite = nat_le sprite.y (y + 128) && nat_lt (y + 128) (sprite.y + 8 * sprite.height)

-- the sprites that cover a line, from a place of the list on
unfoldable pub covering_from : LineView → ℕ → ℕ → Option ℕ → List Sprite
covering_from view y left place = filter (covers y) (listed view left place)

-- all that cover a line, in list order
abbrev pub covering : LineView → ℕ → List Sprite
covering view y = covering_from view y (most_listed view) (Some 0)

-- those that the line shows
abbrev pub chosen : LineView → ℕ → List Sprite
chosen view y = take (most_chosen view) (covering view y)

-- a sprite that shows, with the pixels left to count
pub record Part : Type 0 where
  pub sprite : Sprite
  pub pixels : ℕ

-- what shows of the chosen sprites, with so many pixels left to count: one at X 0 after one at
-- another X hides itself and all after it, and each shows at most the pixels that are left
unfoldable pub parts_from : ℕ → Bool → List Sprite → List Part
parts_from left seen [] = []
parts_from left seen (sprite ∷ rest) =
    if seen && (sprite.x == 0) then []
    else record { sprite = sprite; pixels = min left (8 * sprite.width) } ∷ parts_from (left - 8 * sprite.width) (seen || not (sprite.x == 0)) rest

-- what shows of the sprites of a line; it counts as many pixels as it is wide
abbrev pub parts : LineView → ℕ → List Part
parts view y = parts_from (width_of view) false (chosen view y)

-- more sprites than a line shows, or more pixels than it counts
unfoldable pub overflow : LineView → ℕ → Bool
overflow view y =
    nat_lt (most_chosen view) (length (covering view y)) || nat_lt (width_of view) (sum_by (λ (s : Sprite). 8 * s.width) (chosen view y))

-- a place within a sprite of so many pixels, from the other side where it is flipped
unfoldable pub within : Bool → ℕ → ℕ → ℕ
within flip pixels n = if flip then pixels - (n + 1) else n

-- the dot of a sprite at x, in line y: cells run down, then right
unfoldable pub own_dot : LineView → ℕ → Sprite → ℕ → Dot
own_dot view y s x =
    let across = within (has_bit s.name 2048) (8 * s.width) (x + 128 - s.x) in
    let down = within (has_bit s.name 4096) (8 * s.height) (y + 128 - s.y) in
    let pattern = (s.name + across / 8 * s.height + down / 8) % 2048 in
    record { colour = s.name / 8192 % 4 * 16 + pattern_index view pattern (across % 8) (down % 8); priority = has_bit s.name 32768 }

-- whether a part has a pixel at x
unfoldable pub reaches : Part → ℕ → Bool
reaches part x = nat_le part.sprite.x (x + 128) && nat_lt (x + 128) (part.sprite.x + part.pixels)

-- the dot of a part at x
unfoldable pub part_dot : LineView → ℕ → ℕ → Part → Dot
part_dot view y x part = if reaches part x then own_dot view y part.sprite x else clear

-- the opaque dots at x in list order: the first is the sprite pixel, two are a collision
unfoldable pub opaque_of : LineView → ℕ → List Part → ℕ → List Dot
opaque_of view y list x = filter is_opaque (map (part_dot view y x) list)

-- the sprite dot at x: the first opaque one
unfoldable pub sprite_dot : LineView → ℕ → ℕ → Dot
sprite_dot view y x = if nat_lt x (width_of view) then dot_at (opaque_of view y (parts view y) x) 0 else clear

-- whether something holds below a number
unfoldable pub any_below : ℕ → (ℕ → Bool) → Bool
any_below zero p = false
any_below (suc n) p = any_below n p || p n

-- whether two opaque dots are at one x of the picture
unfoldable pub collides : LineView → ℕ → List Part → Bool
collides view y list = any_below (width_of view) (λ x. nat_lt 1 (length (opaque_of view y list x)))
