-- What a section does with a held chip.
use Rattle.std.specs.Prelude.{◌≡◌, ℕ, ◌+◌, ◌<◌, ◌≤◌, true, false, Some, IfSome, List, length, slice_set}
use Rattle.md_word.specs.declared.key.Key.{Key}
use Rattle.md_word.specs.Keys.{key_lt}
use Rattle.chip_core.specs.Chips.{Rules}
use Rattle.chip_core.specs.Cores.{CoreValue, bound_in}
use Rattle.chip_core.specs.Looks.{LooksAt}
use Rattle.chip_run.specs.Held.{HeldValue}
use Rattle.chip_run.specs.Locked.{IsLocked, LockedValue, count_of}
use Rattle.chip_run.specs.Parts.{PartsValue}
use Rattle.chip_run.specs.Places.{Places, place}
use Rattle.chip_run.specs.Steps.{HasTurn, IsLeaseEnd, after_access, announced, raised}
use Rattle.chip_run.specs.declared.held.Due.TheVariants.{Nothing, Advance, Sample}
use Rattle.chip_run.specs.declared.turn.Turn.{Turn}
use Rattle.chip_run.specs.declared.turn.Turn.TheVariants.{Moved, Blocked, Finished}

module _ {Chip Shared Pins : Type 0} (rules : Rules Chip Shared Pins) where
  -- how a section finds a held chip: at its number, with a bound not above its key, and with no more
  -- moves counted than it has made
  pub record IsFound (i : ℕ) (p : PartsValue Shared) (h : HeldValue Chip Pins) (total : ℕ) : Type 0 where
    pub inside : i < rules.count
    pub free : h.due ≡ Nothing
    pub number : (rules.next h.chip).key.chip ≡ i
    pub bound_count : length p.bounds ≡ rules.count
    pub bound_number : (j : ℕ) → j < rules.count → (bound_in p.bounds j).chip ≡ j
    pub under : key_lt (rules.next h.chip).key (bound_in p.bounds i) ≡ false
    pub booked : total ≤ h.amount

  -- the held chip after the locked part of its access
  abbrev pub performed : PartsValue Shared → HeldValue Chip Pins → HeldValue Chip Pins
  performed p h = record h { chip = (rules.perform h.chip p.shared).chip; due = Advance; amount = h.amount + 1 }

  -- the held chip once the pins of its sample are read, with a lease up to this end
  abbrev pub sampled : PartsValue Shared → ℕ → Key → HeldValue Chip Pins → HeldValue Chip Pins
  sampled p i end h = record h { due = Sample (rules.pins p.shared i) end; amount = h.amount + 1 }

  -- the chip has its turn, and makes its event but for the private work
  pub record Moves (i : ℕ) (p : PartsValue Shared) (h : HeldValue Chip Pins) (q : PartsValue Shared) (k : HeldValue Chip Pins) : Type 0 where
    pub turn : HasTurn rules p i h.chip
    pub access : (rules.next h.chip).sample ≡ false → (q ≡ after_access rules p i h.chip) × (k ≡ performed p h)
    pub sample : (rules.next h.chip).sample ≡ true → (q ≡ record p { bounds = raised rules i h.chip p.bounds }) × ((end : Key) × IsLeaseEnd rules q i end × (k ≡ sampled p i end h))

  -- the chip announces its event, and does nothing else
  pub record Announces (i : ℕ) (p : PartsValue Shared) (h : HeldValue Chip Pins) (q : PartsValue Shared) (k : HeldValue Chip Pins) : Type 0 where
    pub parts : q ≡ record p { bounds = announced rules i h.chip p.bounds }
    pub held : k ≡ h

  -- the chip's event lies below the end, but not below this bound of another chip, at which it looks
  pub record IsBlocked (p : PartsValue Shared) (i : ℕ) (c : Chip) (other : ℕ) (bound : Key) : Type 0 where
    pub early : (rules.next c).key.cycle < p.end
    pub inside : other < length p.bounds
    pub looked : LooksAt rules (rules.next c) i other
    pub is : bound ≡ bound_in p.bounds other
    pub below : key_lt bound (rules.next c).key ≡ true

  -- a section on a held chip, by its answer
  abbrev pub IsTurn : ℕ → PartsValue Shared → HeldValue Chip Pins → Turn → PartsValue Shared → HeldValue Chip Pins → Type 0
  IsTurn i p h Moved q k = Moves i p h q k
  IsTurn i p h (Blocked other bound) q k = IsBlocked p i h.chip other bound × Announces i p h q k
  IsTurn i p h Finished q k = (p.end ≤ (rules.next h.chip).key.cycle) × Announces i p h q k

  -- a section on the held chip of this number, which changes no other and counts no other's moves
  pub record IsSection (i : ℕ) (l : LockedValue Shared) (hs : Places Chip Pins) (answer : Turn) (l2 : LockedValue Shared) (hs2 : Places Chip Pins) : Type 0 where
    pub before : HeldValue Chip Pins
    pub after : HeldValue Chip Pins
    pub there : place hs i ≡ Some before
    pub found : IsFound i l.parts before (count_of l.counts i)
    pub turn : IsTurn i l.parts before answer l2.parts after
    pub counts : l2.counts ≡ slice_set l.counts i after.amount
    pub helds : hs2 ≡ slice_set hs i (Some after)

  -- the held chip of this number has its turn
  abbrev pub HasTurnAt : ℕ → LockedValue Shared → Places Chip Pins → Type 0
  HasTurnAt i l hs = IfSome (place hs i) (λ h. HasTurn rules l.parts i h.chip)

  -- it is blocked by this bound of another chip
  abbrev pub IsBlockedAt : ℕ → LockedValue Shared → Places Chip Pins → ℕ → Key → Type 0
  IsBlockedAt i l hs other bound = IfSome (place hs i) (λ h. IsBlocked l.parts i h.chip other bound)

  -- its next event does not lie below the end
  abbrev pub IsFinishedAt : ℕ → LockedValue Shared → Places Chip Pins → Type 0
  IsFinishedAt i l hs = IfSome (place hs i) (λ h. l.parts.end ≤ (rules.next h.chip).key.cycle)

-- the parts are locked ones, with some counts of which this is one
pub record IsLockedAt {Chip Shared Pins : Type 0} (rules : Rules Chip Shared Pins) (chip_ok : Chip → Type 0) (shared_ok : Shared → Type 0)
    (base : CoreValue Chip Shared) (t : ℕ) (p : PartsValue Shared) (i total : ℕ) : Type 0 where
  pub counts : List ℕ
  pub inside : i < length counts
  pub booked : count_of counts i ≡ total
  pub locked : IsLocked rules chip_ok shared_ok base t p counts

-- locked parts stay so, whatever is counted of other chips, where so many moves of this one were counted before
-- and so many after
abbrev pub KeepsLocked : {Chip Shared Pins : Type 0} → Rules Chip Shared Pins → (Chip → Type 0) → (Shared → Type 0) → CoreValue Chip Shared → ℕ → ℕ → PartsValue Shared → ℕ → PartsValue Shared → ℕ → Type 0
KeepsLocked rules chip_ok shared_ok base t i p paid q later =
    (counts : List ℕ) → i < length counts → count_of counts i ≡ paid → IsLocked rules chip_ok shared_ok base t p counts → IsLocked rules chip_ok shared_ok base t q (slice_set counts i later)
