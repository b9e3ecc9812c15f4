-- The dots of a sprite's cell.
use Rattle.std.proofs.Common.{◌≡◌, refl, ℕ, ◌+◌, ◌-◌, ◌*◌, ◌/◌, ◌%◌, ◌<◌, ◌≤◌, Bool, true, false, arith}
use Rattle.vdp_planes.specs.declared.view.LineView.{LineView}
use Rattle.vdp_planes.specs.View.{has_bit}
use Rattle.vdp_planes.specs.Planes.{pattern_index, pixel_of, turned}
use Rattle.vdp_sprites.specs.declared.sprite.Sprite.{Sprite}
use Rattle.vdp_sprites.specs.Sprites.{Part, own_dot, reaches, within}
use Rattle.vdp_sprites.specs.Drawn.{pixel_dot}

across_cell : (flip : Bool) (w left k : ℕ) → left < 8 * w → left % 8 + k < 8 → within flip (8 * w) (left + k) / 8 ≡ within flip w (left / 8)
unfolding within
across_cell true w left k h u = omega arith
across_cell false w left k h u = omega arith

across_column : (flip : Bool) (w left k : ℕ) → left < 8 * w → left % 8 + k < 8 → within flip (8 * w) (left + k) % 8 ≡ turned flip (left % 8 + k)
unfolding within turned
across_column true w left k h u = omega arith
across_column false w left k h u = omega arith

pub own_cell : (view : LineView) (y : ℕ) (s : Sprite) (x i pixels across down : ℕ) → s.x ≤ x + 128 → x + 128 < s.x + 8 * s.width → x ≤ i → i < x + 8 - (x + 128 - s.x) % 8
    → across ≡ within (has_bit s.name 2048) s.width ((x + 128 - s.x) / 8) → down ≡ within (has_bit s.name 4096) (8 * s.height) (y + 128 - s.y)
    → ((c : ℕ) → c < 8 → pixel_of pixels c ≡ pattern_index view ((s.name + across * s.height + down / 8) % 2048) (turned (has_bit s.name 2048) c) (down % 8))
    → pixel_dot s pixels ((x + 128 - s.x) % 8 + (i - x)) ≡ own_dot view y s i
unfolding own_dot pixel_dot
own_cell view y s x i pixels across down low high le near e f same =
    let left = x + 128 - s.x in
    let k = i - x in
    let flip = has_bit s.name 2048 in
    let inside : left < 8 * s.width = omega arith in
    let column : left % 8 + k < 8 = omega arith in
    let place : i + 128 - s.x ≡ left + k = omega arith in
    let here = same (left % 8 + k) column in
    let cell = across_cell flip s.width left k inside column in
    let digit = across_column flip s.width left k inside column in
    rw (here, e, f, place, cell, digit) refl

pub reach-low : (part : Part) (x : ℕ) → reaches part x ≡ true → part.sprite.x ≤ x + 128
unfolding reaches
reach-low part x e = grind (arith, e)

pub reach-high : (part : Part) (x : ℕ) → reaches part x ≡ true → x + 128 < part.sprite.x + part.pixels
unfolding reaches
reach-high part x e = grind (arith, e)
