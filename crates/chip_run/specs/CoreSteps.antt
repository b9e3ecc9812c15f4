-- A section as steps of the core.
use Rattle.std.specs.Prelude.{◌≡◌, ℕ, Some}
use Rattle.chip_core.specs.declared.event.Event.{Event}
use Rattle.chip_core.specs.declared.event.Event.TheVariants.{Announce}
use Rattle.chip_core.specs.Chips.{Rules}
use Rattle.chip_core.specs.Events.{IsEnabled, Seen, after, own_event}
use Rattle.chip_core.specs.Machines.{put}
use Rattle.chip_run.specs.Held.{HeldValue, settled}
use Rattle.chip_run.specs.Locked.{LockedValue, seen_at}
use Rattle.chip_run.specs.Parts.{PartsValue}
use Rattle.chip_run.specs.Places.{Places, place}

module _ {Chip Shared Pins : Type 0} (rules : Rules Chip Shared Pins) where
  -- the core after the event where that is enabled below t, and the same core where it is not
  pub record IsAfterEnabled (t : ℕ) (s : Seen Chip Shared) (e : Event) (z : Seen Chip Shared) : Type 0 where
    pub enabled : IsEnabled rules s t e → z ≡ after rules s e
    pub refused : (IsEnabled rules s t e → ⊥) → z ≡ s

  -- the core that the locked parts make with the held chip, the work of its last counted event done, and
  -- other chips
  abbrev pub core_with : (ℕ → Chip) → ℕ → PartsValue Shared → HeldValue Chip Pins → Seen Chip Shared
  core_with others i p h = seen_at (record { shared = p.shared; chip = put others i (settled rules h.due h.chip) }) p

  -- from the one core to the other by the chip's announcement where it is enabled, and then by the
  -- chip's own event where that is enabled
  pub record IsCoreTurn (i t : ℕ) (s z : Seen Chip Shared) : Type 0 where
    pub between : Seen Chip Shared
    pub announced : IsAfterEnabled t s (Announce i) between
    pub moved : IsAfterEnabled t between (own_event rules between i) z

  -- a section is that of the core, whatever the other chips are
  abbrev pub IsCoreSection : ℕ → LockedValue Shared → Places Chip Pins → LockedValue Shared → Places Chip Pins → Type 0
  IsCoreSection i l hs l2 hs2 =
      (others : ℕ → Chip) (before after : HeldValue Chip Pins) → place hs i ≡ Some before → place hs2 i ≡ Some after
      → IsCoreTurn i l.parts.end (core_with others i l.parts before) (core_with others i l2.parts after)
