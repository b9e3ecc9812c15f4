-- Of no held chip work is due, in the words of the places and in those of the work queue.
use Rattle.std.proofs.Common.{◌≡◌, ℕ, zero, suc, Bool, true, refl, sym, ◌∙◌, ap, [], ◌∷◌, Option, Some, None}
use Rattle.std.proofs.lemmas.Bool.{false≢true}
use Rattle.chip_run.specs.Held.{HeldValue}
use Rattle.chip_run.specs.Leads as leads
use Rattle.chip_run.specs.Places.{AllFree, FreeBut, Places, is_idle, is_nothing, place}
use Rattle.chip_run.specs.declared.held.Due.{Due}
use Rattle.chip_run.specs.declared.held.Due.TheVariants.{Nothing, Advance, Sample}
use Rattle.work_sharing.specs.Dues as dues
use Rattle.work_sharing.specs.declared.led.Led.{Led}
use Rattle.work_sharing.specs.declared.led.Led.TheVariants as Leds

nothing-due : {Pins : Type 0} (d : Due Pins) → is_nothing d ≡ true → d ≡ Nothing
nothing-due Nothing e = refl
nothing-due Advance e = absurd (false≢true e)
nothing-due (Sample pins end) e = absurd (false≢true e)

-- no place has a chip
pub none-idle : (Chip Pins : Type 0) (i : ℕ) → is_idle {Chip = Chip} {Pins = Pins} (place (None ∷ None ∷ None ∷ None ∷ None ∷ []) i) ≡ true
none-idle Chip Pins zero = refl
none-idle Chip Pins (suc zero) = refl
none-idle Chip Pins (suc (suc zero)) = refl
none-idle Chip Pins (suc (suc (suc zero))) = refl
none-idle Chip Pins (suc (suc (suc (suc zero)))) = refl
none-idle Chip Pins (suc (suc (suc (suc (suc i))))) = refl

module _ {Chip Pins : Type 0} where
  abbrev idle_at : ℕ → Places Chip Pins → Bool
  idle_at i hs = is_idle (place hs i)

  idle-at : (o : Option (HeldValue Chip Pins)) → ((h : HeldValue Chip Pins) → o ≡ Some h → h.due ≡ Nothing) → is_idle o ≡ true
  idle-at None free = refl
  idle-at (Some h) free = ap is_nothing (free h refl)

  due-at : (o : Option (HeldValue Chip Pins)) → is_idle o ≡ true → (h : HeldValue Chip Pins) → o ≡ Some h → h.due ≡ Nothing
  due-at o idle h there = nothing-due h.due (ap is_idle (sym there) ∙ idle)

  pub idle-free : (hs : Places Chip Pins) → AllFree hs → dues.AllFree idle_at hs
  idle-free hs free i = idle-at (place hs i) (free i)

  pub free-idle : (hs : Places Chip Pins) → dues.AllFree idle_at hs → AllFree hs
  free-idle hs idle i = due-at (place hs i) (idle i)

  pub idle-but : (k : ℕ) (hs : Places Chip Pins) → FreeBut k hs → dues.FreeBut idle_at k hs
  idle-but k hs but i ne = idle-at (place hs i) (λ h. but i h ne)

  pub but-idle : (k : ℕ) (hs : Places Chip Pins) → dues.FreeBut idle_at k hs → FreeBut k hs
  but-idle k hs idle i h ne = due-at (place hs i) (idle i ne) h

  pub idle-led : (led : Led) (hs : Places Chip Pins) → leads.IsLed led hs → dues.IsLed idle_at led hs
  idle-led (Leds.WorthOffloading k) hs is = idle-but k hs is
  idle-led (Leds.Away k) hs is = idle-free hs is
  idle-led Leds.Ended hs is = idle-free hs is
