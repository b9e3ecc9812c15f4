-- What a round does with the chips that a worker holds.
use Rattle.std.specs.Prelude.{◌≡◌, ◌≢◌, ◌⊎◌, Bool, true, false, ℕ, suc, ◌+◌, ◌<◌, ◌≤◌, Option, Some, None, IfSome, List, length, map, slice_get, slice_set}
use Rattle.std.specs.Option.{option_map}
use Rattle.md_word.specs.Keys.{key_lt}
use Rattle.md_word.specs.declared.key.Key.{Key}
use Rattle.chip_core.specs.Chips.{Rules, RunsTo}
use Rattle.chip_core.specs.Cores.{bound_in}
use Rattle.chip_core.specs.Looks.{LooksAt}
use Rattle.chip_run.specs.Held.{HeldValue}
use Rattle.chip_run.specs.Places.{AllFree, Places, place}
use Rattle.chip_run.specs.declared.round.Round.{Round}
use Rattle.chip_run.specs.declared.round.Round.TheVariants as Rounds
use Rattle.chip_run.specs.declared.held.Due.{Due}
use Rattle.chip_run.specs.declared.held.Due.TheVariants.{Nothing, Advance, Sample}
use Rattle.chip_run.specs.declared.turn.Turn.{Turn}
use Rattle.chip_run.specs.declared.turn.Turn.TheVariants as Turns
use Rattle.chip_run.specs.declared.sweep.Swept.{Swept}
use Rattle.chip_run.specs.declared.sweep.Swept.TheVariants as Sweeps

module _ {Chip Pins : Type 0} where
  -- a held chip but for the passes made for it
  abbrev pub bare : HeldValue Chip Pins → HeldValue Chip Pins
  bare h = record h { passes = 0 }

  -- the same of every place
  abbrev pub bares : Places Chip Pins → Places Chip Pins
  bares hs = map (option_map bare) hs

  -- whether a place holds a chip
  abbrev pub is_there : Option (HeldValue Chip Pins) → Bool
  is_there None = false
  is_there (Some h) = true

  -- in which places a chip is held
  abbrev pub occupied : Places Chip Pins → List Bool
  occupied hs = map is_there hs

  -- the same chips are held, and of none work is due
  pub record Keeps (hs hs2 : Places Chip Pins) : Type 0 where
    pub same : occupied hs2 ≡ occupied hs
    pub free : AllFree hs2

-- the bounds, one by one, are as they were
abbrev pub AreUnchanged : List Key → List Key → Type 0
AreUnchanged old new = (i : ℕ) → bound_in new i ≡ bound_in old i

-- a bound changed
abbrev pub IsChanged : List Key → List Key → Type 0
IsChanged old new = (i : ℕ) × (bound_in new i ≢ bound_in old i)

-- no bound changed but that of this number
pub record KeepsOthers (i : ℕ) (old new : List Key) : Type 0 where
  pub count : length new ≡ length old
  pub others : (j : ℕ) → j ≢ i → bound_in new j ≡ bound_in old j

-- of the bounds that of this number alone may change, and a change there, and only one, is noted
pub record IsNoted (i : ℕ) (first : Bool) (old : List Key) (noted : Bool) (new : List Key) : Type 0 where
  pub keeps : KeepsOthers i old new
  pub unchanged : noted ≡ false → (first ≡ false) × (slice_get new i ≡ slice_get old i)
  pub changed : noted ≡ true → (first ≡ true) ⊎ (slice_get new i ≢ slice_get old i)

module _ {Chip Shared Pins : Type 0} (rules : Rules Chip Shared Pins) where
  -- what the due work leaves of a held chip: after a sample all samples of the lease are made
  abbrev pub Settles : Due Pins → HeldValue Chip Pins → HeldValue Chip Pins → Type 0
  Settles Nothing h k = k ≡ h
  Settles Advance h k = k ≡ record h { chip = rules.advance h.chip; due = Nothing }
  Settles (Sample pins end) h k =
      (ahead : ℕ) × RunsTo rules (suc ahead) end pins h.chip k.chip × (k ≡ record h { chip = k.chip; due = Nothing; amount = h.amount + ahead })

  -- the same of a place
  abbrev pub SettlesAt : Option (HeldValue Chip Pins) → Option (HeldValue Chip Pins) → Type 0
  SettlesAt None o = o ≡ None
  SettlesAt (Some h) o = (k : HeldValue Chip Pins) × (o ≡ Some k) × Settles h.due h k

  -- the next event of the chip held there, if one is, does not lie below the end
  abbrev pub IsEndedAt : ℕ → Places Chip Pins → ℕ → Type 0
  IsEndedAt t hs i = IfSome (place hs i) (λ h. t ≤ (rules.next h.chip).key.cycle)

  -- the same of all held chips
  abbrev pub IsEnded : ℕ → Places Chip Pins → Type 0
  IsEnded t hs = (i : ℕ) → IsEndedAt t hs i

  -- the chip of this number, whose event lies below the end, made one more move and the samples under its
  -- lease, and the others are as they were
  pub record Made (t i : ℕ) (hs hs2 : Places Chip Pins) : Type 0 where
    pub before : HeldValue Chip Pins
    pub after : HeldValue Chip Pins
    pub there : place hs i ≡ Some before
    pub early : (rules.next before.chip).key.cycle < t
    pub leased : ℕ
    pub more : after.amount ≡ before.amount + 1 + leased
    pub now : hs2 ≡ slice_set hs i (Some after)

  -- the event of the chip held at this number, which lies below the end, looks at the bound of the other
  pub record Waits (t i : ℕ) (hs : Places Chip Pins) (other : ℕ) : Type 0 where
    pub held : HeldValue Chip Pins
    pub there : place hs i ≡ Some held
    pub early : (rules.next held.chip).key.cycle < t
    pub looks : LooksAt rules (rules.next held.chip) i other

  -- of the held chips whose events lie below the end the one of least key waits for the other
  pub record LeastWaits (t : ℕ) (hs : Places Chip Pins) (other : ℕ) : Type 0 where
    pub chip : ℕ
    pub waits : Waits t chip hs other
    pub least : (i : ℕ) → IfSome (place hs i) (λ h. (rules.next h.chip).key.cycle < t → key_lt (rules.next h.chip).key (rules.next waits.held.chip).key ≡ false)

  -- what a section leaves of the held chips
  abbrev pub IsSeenTurn : ℕ → ℕ → Places Chip Pins → Turn → Places Chip Pins → Type 0
  IsSeenTurn t i hs Turns.Moved hs2 = Made t i hs hs2
  IsSeenTurn t i hs (Turns.Blocked other bound) hs2 = (hs2 ≡ hs) × Waits t i hs other
  IsSeenTurn t i hs Turns.Finished hs2 = (hs2 ≡ hs) × IsEndedAt t hs i

  -- what a sweep over them leaves
  abbrev pub IsSwept : ℕ → Places Chip Pins → Swept → Places Chip Pins → Type 0
  IsSwept t hs (Sweeps.Moved k) hs2 = Made t k hs hs2
  IsSwept t hs (Sweeps.Blocked other) hs2 = (hs2 ≡ hs) × LeastWaits t hs other
  IsSwept t hs Sweeps.Finished hs2 = (hs2 ≡ hs) × IsEnded t hs

  -- what the rounds up to an answer leave, but for the passes
  abbrev pub IsRound : ℕ → Places Chip Pins → Round → Places Chip Pins → Type 0
  IsRound t hs (Rounds.Moved k) hs2 = Made t k (bares hs) (bares hs2)
  IsRound t hs Rounds.Finished hs2 = (bares hs2 ≡ bares hs) × IsEnded t hs2
