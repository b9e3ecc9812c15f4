-- What is kept of the registers.
use Rattle.std.specs.Prelude.{◌≡◌, ℕ, true, Bool, ◌==◌, ◌||◌, ◌&&◌, not, nat_le, List, length}
use Rattle.fm_chip.specs.declared.kept.Kept.{Kept}
use Rattle.fm_chip.specs.Steps.{AreSteps}
use Rattle.fm_chip.specs.Shapes.{AreShapes}

-- what is called fresh is what the registers say
pub record IsFresh (registers : List ℕ) (kept : Kept) : Type 0 where
  pub steps_six : length kept.steps ≡ 6
  pub shapes_six : length kept.shapes ≡ 6
  pub steps : kept.fresh ≡ true → AreSteps registers kept.place kept.steps
  pub shapes : kept.fresh ≡ true → AreShapes registers kept.shapes

-- whether it depends on the register at a place: on the mode of channel 3, and on those of operators and
-- channels
abbrev pub is_kept_from : ℕ → Bool
is_kept_from place = (place == 0x27) || nat_le 0x30 place

-- what is kept when the register at a place has changed
unfoldable pub forgotten : ℕ → Kept → Kept
forgotten place kept = record kept { fresh = kept.fresh && not (is_kept_from place) }
