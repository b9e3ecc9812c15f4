-- A scanline that is drawn from the dots of the sprites, by their places.
use Rattle.std.specs.Prelude.{◌≡◌, ℕ, ◌<◌, nat_lt, true, List}
use Rattle.std.proofs.Common.{sym, ◌∙◌, arith, inl, inr}
use Rattle.std.proofs.lemmas.Bool.{cases_Bool, ltb-false, ltb-true}
use Rattle.std.proofs.lemmas.List.FromFn.{get_or-map-range_with_len}
use Rattle.md_word.specs.Region.{picture_width}
use Rattle.vdp_planes.specs.Dots.{Dot}
use Rattle.vdp_planes.specs.declared.view.LineView.{LineView}
use Rattle.vdp_planes.specs.View.{clear, display_height, dot_at}
use Rattle.vdp_sprites.specs.Sprites.{sprite_dot}
use Rattle.vdp_chip.specs.Picture.{scanline_of}
use Rattle.vdp_chip.proofs.Scanlines.{scanline_hidden, scanline_same}
use Rattle.vdp_sprites.specs.Lines.{sprites_on}
use Rattle.vdp_ahead.specs.Lines.{scanline_on}

-- the dots of the sprites, by their places
sprites-at : (view : LineView) (y x : ℕ) → nat_lt y (display_height view) ≡ true → x < picture_width → dot_at (sprites_on y view) x ≡ sprite_dot view y x
unfolding sprites_on
sprites-at view y x below within = rw below (get_or-map-range_with_len (sprite_dot view y) 0 picture_width x x clear within (omega arith))

-- a scanline that is drawn from these dots
pub scanline_drawn : (view : LineView) (s : List Dot) (y : ℕ) → (y < display_height view → (x : ℕ) → x < picture_width → dot_at s x ≡ sprite_dot view y x)
    → scanline_of view s y ≡ scanline_on y view
scanline_drawn view s y dots = elim (cases_Bool (nat_lt y (display_height view))) [
  | inl below ↦ (let low : y < display_height view = ltb-true y (display_height view) below in
      scanline_same view s (sprites_on y view) y (λ x within. dots low x within ∙ sym (sprites-at view y x below within)))
  | inr following ↦ scanline_hidden view s (sprites_on y view) y (ltb-false y (display_height view) following)
]
