-- What a walk along the list has found.
use Rattle.std.specs.Prelude.{◌≡◌, ℕ, ◌≤◌, Bool, nat_lt, List, ◌++◌, length, Option}
use Rattle.vdp_planes.specs.declared.view.LineView.{LineView}
use Rattle.vdp_sprites.specs.declared.sprite.Sprite.{Sprite}
use Rattle.vdp_sprites.specs.Sprites.{chosen, covering, covering_from, most_chosen}

-- what was found and what covers the line from a place on make up all that cover it
pub record Walk (view : LineView) (y left : ℕ) (place : Option ℕ) (found : List Sprite) : Type 0 where
  pub all : covering view y ≡ found ++ covering_from view y left place
  pub room : length found ≤ most_chosen view

-- the chosen ones, and whether there were more
pub record IsChosen (view : LineView) (y : ℕ) (found : List Sprite) (further : Bool) : Type 0 where
  pub items : found ≡ chosen view y
  pub more : further ≡ nat_lt (most_chosen view) (length (covering view y))
