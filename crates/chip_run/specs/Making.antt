-- The chips taken out of their list.
use Rattle.std.specs.Prelude.{◌≡◌, ℕ, ◌<◌, ◌≤◌, Some, List, length}
use Rattle.chip_core.specs.Chips.{Rules}
use Rattle.chip_core.specs.Cores.{CoreValue, chip_in}
use Rattle.chip_run.specs.Held.{HeldValue}
use Rattle.chip_run.specs.Places.{Places, place}
use Rattle.chip_run.specs.declared.held.Due.TheVariants.{Nothing}

module _ {Chip Shared Pins : Type 0} (rules : Rules Chip Shared Pins) (base : CoreValue Chip Shared) where
  -- the list has the base's chips below k, as far as there are chips
  pub record Remains (k : ℕ) (chips : List Chip) : Type 0 where
    pub some : k ≤ rules.count → length chips ≡ k
    pub all : rules.count ≤ k → length chips ≡ rules.count
    pub are : (i : ℕ) → i < length chips → chip_in rules chips i ≡ chip_in rules base.chips i

  -- the base's chip of this number, held before its first move
  abbrev pub first_held : ℕ → HeldValue Chip Pins
  first_held i = record { number = i; chip = chip_in rules base.chips i; due = Nothing; amount = 0; passes = 0 }

  -- all chips of the base are held, and none has moved
  abbrev pub AreFirst : Places Chip Pins → Type 0
  AreFirst hs = (i : ℕ) → i < rules.count → place hs i ≡ Some (first_held i)
