-- Of which held chips private work may be due after a turn.
use Rattle.std.specs.Prelude.{◌≡◌, ℕ, Option, IfSome}
use Rattle.chip_run.specs.Held.{HeldValue}
use Rattle.chip_run.specs.Places.{AllFree, FreeBut, Places}
use Rattle.work_sharing.specs.declared.led.Led.{Led}
use Rattle.work_sharing.specs.declared.led.Led.TheVariants as Leds
use Rattle.chip_run.specs.declared.leading.Turned.{Turned}
use Rattle.chip_run.specs.declared.leading.Turned.TheVariants as Turns
use Rattle.chip_run.specs.declared.held.Due.TheVariants.{Nothing}

module _ {Chip Pins : Type 0} where
  -- of the chip in a place, if one is there, work may be due where it is worth offloading
  abbrev pub IsTurnedPlace : Turned → Option (HeldValue Chip Pins) → Type 0
  IsTurnedPlace Turns.WorthOffloading o = Unit {0}
  IsTurnedPlace Turns.Taken o = IfSome o (λ h. h.due ≡ Nothing)
  IsTurnedPlace Turns.Away o = IfSome o (λ h. h.due ≡ Nothing)

  -- the same of the chip of this number, and of no other held chip
  abbrev pub IsTurned : ℕ → Turned → Places Chip Pins → Type 0
  IsTurned k Turns.WorthOffloading hs = FreeBut k hs
  IsTurned k Turns.Taken hs = AllFree hs
  IsTurned k Turns.Away hs = AllFree hs

  -- the held chips, of which private work may be due where it is worth offloading
  abbrev pub IsLed : Led → Places Chip Pins → Type 0
  IsLed (Leds.WorthOffloading k) hs = FreeBut k hs
  IsLed (Leds.Away k) hs = AllFree hs
  IsLed Leds.Ended hs = AllFree hs
