-- What the turn of a chip does under the lock.
use Rattle.std.specs.Prelude.{◌≡◌, ℕ, ◌+◌, ◌<◌, ◌≤◌, true, false, Option, Some, None, List, [], ◌∷◌, ◌++◌, length, slice_set}
use Rattle.md_word.specs.declared.key.Key.{Key}
use Rattle.chip_core.specs.Chips.{Rules}
use Rattle.chip_core.specs.Cores.{bound_in}
use Rattle.chip_core.specs.Looks.{FindsOther, IsFirst, IsLeastLimit, IsLimit}
use Rattle.chip_core.specs.Machines.{least_below}
use Rattle.chip_run.specs.Parts.{PartsValue}
use Rattle.chip_run.specs.declared.stepped.Stepped.{Stepped}
use Rattle.chip_run.specs.declared.stepped.Stepped.TheVariants.{Performed, Sampled, Blocked, Finished}

-- the bound of the chip of this number is the least, and lies below the end
pub record IsLeastBound {Shared : Type 0} (p : PartsValue Shared) (i : ℕ) : Type 0 where
  pub inside : i < length p.bounds
  pub early : (bound_in p.bounds i).cycle < p.end
  pub least : i ≡ least_below (bound_in p.bounds) (length p.bounds)

module _ {Chip Shared Pins : Type 0} (rules : Rules Chip Shared Pins) where
  -- the bounds once the chip has announced its next event
  abbrev pub announced : ℕ → Chip → List Key → List Key
  announced i c bounds = slice_set bounds i (rules.next c).key

  -- the bounds once the chip has made that event
  abbrev pub raised : ℕ → Chip → List Key → List Key
  raised i c bounds = slice_set (announced i c bounds) i (record { cycle = (rules.next c).key.cycle + rules.gap i; chip = i })

  -- it is this chip's turn: its event lies below the end and below the bounds that it looks at
  pub record HasTurn (p : PartsValue Shared) (i : ℕ) (c : Chip) : Type 0 where
    pub early : (rules.next c).key.cycle < p.end
    pub first : IsFirst rules (rules.next c) p.bounds i

  -- where an access has its turn, the journal has a free place
  abbrev pub HasPlaceFor : PartsValue Shared → ℕ → Chip → Type 0
  HasPlaceFor p i c = HasTurn p i c → (rules.next c).sample ≡ false → length p.journal < p.room

  -- the end of a lease of chip i: the least of the first key at the run's end and of the bounds of the
  -- other chips that write its pins
  pub record IsLeaseEnd (p : PartsValue Shared) (i : ℕ) (end : Key) : Type 0 where
    pub limit : IsLimit rules p.end (bound_in p.bounds) (length p.bounds) i end
    pub least : IsLeastLimit rules p.end (bound_in p.bounds) (length p.bounds) i end

  -- the locked part once an access of chip i is made: its bound is raised, and its entry joins the
  -- journal
  abbrev pub after_access : PartsValue Shared → ℕ → Chip → PartsValue Shared
  after_access p i c = record p {
    shared = (rules.perform c p.shared).shared;
    bounds = raised i c p.bounds;
    journal = p.journal ++ (rules.perform c p.shared).entry ∷ [];
  }

  -- the locked part of a turn, by its answer
  abbrev pub IsStep : PartsValue Shared → ℕ → Chip → Stepped Pins → PartsValue Shared → Chip → Type 0
  IsStep p i c Performed q d =
      HasTurn p i c × ((rules.next c).sample ≡ false) × (q ≡ after_access p i c) × (d ≡ (rules.perform c p.shared).chip)
  IsStep p i c (Sampled pins end) q d =
      HasTurn p i c × ((rules.next c).sample ≡ true) × (pins ≡ rules.pins p.shared i) × (q ≡ record p { bounds = raised i c p.bounds }) × (d ≡ c) × IsLeaseEnd q i end
  IsStep p i c (Blocked other bound) q d =
      ((rules.next c).key.cycle < p.end) × FindsOther rules (rules.next c) p.bounds i other × (bound ≡ bound_in p.bounds other)
      × (q ≡ record p { bounds = announced i c p.bounds }) × (d ≡ c)
  IsStep p i c Finished q d = (p.end ≤ (rules.next c).key.cycle) × (q ≡ record p { bounds = announced i c p.bounds }) × (d ≡ c)

  -- the whole of an access
  abbrev pub IsAccess : PartsValue Shared → ℕ → Chip → PartsValue Shared → Chip → Type 0
  IsAccess p i c q d = HasTurn p i c × ((rules.next c).sample ≡ false) × (q ≡ after_access p i c) × (d ≡ rules.advance (rules.perform c p.shared).chip)

  -- the locked parts once the chip is announced, and raised where it has a lease up to this end
  abbrev pub HasLease : PartsValue Shared → ℕ → Chip → Option Key → PartsValue Shared → Type 0
  HasLease p i c None q = q ≡ record p { bounds = announced i c p.bounds }
  HasLease p i c (Some end) q =
      HasTurn p i c × ((rules.next c).sample ≡ true) × (q ≡ record p { bounds = raised i c p.bounds }) × IsLeaseEnd q i end
