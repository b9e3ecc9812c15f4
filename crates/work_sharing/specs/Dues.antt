-- Of which chips of a holder private work may be due, as they go between the threads.
use Rattle.std.specs.Prelude.{◌≡◌, ◌≢◌, ℕ, Bool, true}
use Rattle.work_sharing.specs.declared.led.Led.{Led}
use Rattle.work_sharing.specs.declared.led.Led.TheVariants as Leds
use Rattle.work_sharing.specs.declared.work_queue.laid.Found.{Found}
use Rattle.work_sharing.specs.declared.work_queue.laid.Found.TheVariants as Founds

module _ {Holder : Type 0} (is_free : ℕ → Holder → Bool) where
  -- of no held chip private work is due
  abbrev pub AllFree : Holder → Type 0
  AllFree h = (i : ℕ) → is_free i h ≡ true

  -- the same of each but that of this number
  abbrev pub FreeBut : ℕ → Holder → Type 0
  FreeBut k h = (i : ℕ) → i ≢ k → is_free i h ≡ true

  -- the held chips after their turns, of which private work may be due where it is worth offloading
  abbrev pub IsLed : Led → Holder → Type 0
  IsLed (Leds.WorthOffloading k) h = FreeBut k h
  IsLed (Leds.Away k) h = AllFree h
  IsLed Leds.Ended h = AllFree h

  -- the held chips with the one that was found in the work queue, of which work is due
  abbrev pub IsFoundDue : Found → Holder → Type 0
  IsFoundDue (Founds.Chip k) h = FreeBut k h
  IsFoundDue Founds.Nothing h = AllFree h
  IsFoundDue Founds.Over h = AllFree h
