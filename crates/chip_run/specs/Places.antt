-- The places of the held chips, by their numbers.
use Rattle.std.specs.Prelude.{◌≡◌, ◌≢◌, ℕ, Bool, true, false, Option, Some, None, IfSome, List, slice_index_or}
use Rattle.chip_core.specs.Chips.{Rules}
use Rattle.chip_core.specs.Cores.{CoreValue, machine_of}
use Rattle.chip_core.specs.Machines.{OnPath}
use Rattle.chip_run.specs.Held.{HeldValue, settled}
use Rattle.chip_run.specs.declared.held.Due.{Due}
use Rattle.chip_run.specs.declared.held.Due.TheVariants.{Nothing, Advance, Sample}

-- for each number the chip that is held there, if one is
abbrev pub Places : Type 0 → Type 0 → Type 0
Places Chip Pins = List (Option (HeldValue Chip Pins))

-- whether no work is due
abbrev pub is_nothing : {Pins : Type 0} → Due Pins → Bool
is_nothing Nothing = true
is_nothing Advance = false
is_nothing (Sample pins end) = false

module _ {Chip Pins : Type 0} where
  -- a chip that is in the place has the place's number
  abbrev pub HasNumber : ℕ → Option (HeldValue Chip Pins) → Type 0
  HasNumber i o = IfSome o (λ h. h.number ≡ i)

  -- what is in the place of this number
  abbrev pub place : Places Chip Pins → ℕ → Option (HeldValue Chip Pins)
  place hs i = slice_index_or hs i None

  -- whether a place has no chip of which work is due
  abbrev pub is_idle : Option (HeldValue Chip Pins) → Bool
  is_idle None = true
  is_idle (Some h) = is_nothing h.due

  -- a chip is held there, and no work of it is due
  pub record IsFree (hs : Places Chip Pins) (i : ℕ) : Type 0 where
    pub held : HeldValue Chip Pins
    pub there : place hs i ≡ Some held
    pub free : held.due ≡ Nothing

  -- of no held chip work is due
  abbrev pub AllFree : Places Chip Pins → Type 0
  AllFree hs = (i : ℕ) (h : HeldValue Chip Pins) → place hs i ≡ Some h → h.due ≡ Nothing

  -- the same of each but that of this number
  abbrev pub FreeBut : ℕ → Places Chip Pins → Type 0
  FreeBut k hs = (i : ℕ) (h : HeldValue Chip Pins) → i ≢ k → place hs i ≡ Some h → h.due ≡ Nothing

module _ {Chip Shared Pins : Type 0} (rules : Rules Chip Shared Pins) where
  -- once its due work is done, each held chip is where as many moves of its own as its share counts
  -- lead in the base's run
  abbrev pub AreOnPaths : CoreValue Chip Shared → ℕ → Places Chip Pins → Type 0
  AreOnPaths base t hs = (i : ℕ) → IfSome (place hs i) (λ h. OnPath rules (machine_of rules base) t i h.amount (settled rules h.due h.chip))
