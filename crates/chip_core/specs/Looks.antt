-- What a look at all chips finds.
use Rattle.std.specs.Prelude.{◌≡◌, ◌≢◌, ℕ, zero, suc, ◌<◌, true, false, cond, Option, Some, None, List, length, slice_index_or}
use Rattle.md_word.specs.declared.event.Next.{Next}
use Rattle.md_word.specs.declared.key.Key.{Key}
use Rattle.md_word.specs.Keys.{key_lt}
use Rattle.chip_core.specs.Chips.{Rules}
use Rattle.chip_core.specs.Cores.{bound_in, no_key}

-- the first of two that is there
abbrev pub or_else : Option ℕ → Option ℕ → Option ℕ
or_else None y = y
or_else (Some x) y = Some x

-- the least number below n whose bound is below its key
unfoldable pub least_lagging : (ℕ → Key) → (ℕ → Key) → ℕ → Option ℕ
least_lagging bound key zero = None
least_lagging bound key (suc n) = or_else (least_lagging bound key n) (cond (key_lt (bound n) (key n)) (Some n) None)

-- a key is below each bound but that of one number
abbrev pub IsBelowOthers : Key → List Key → ℕ → Type 0
IsBelowOthers key bounds i = (j : ℕ) → j < length bounds → j ≢ i → key_lt key (slice_index_or bounds j no_key) ≡ true

-- each key below this one lies below cycle t, and below the bounds of the first n chips but for i and j
abbrev pub IsFreeTo : ℕ → (ℕ → Key) → ℕ → ℕ → ℕ → Key → Type 0
IsFreeTo t bound n i j end = (key : Key) → key_lt key end ≡ true → (key.cycle < t) × ((k : ℕ) → k < n → k ≢ i → k ≢ j → key_lt key (bound k) ≡ true)

-- and each key that lies so lies below this one
abbrev pub IsLastFree : ℕ → (ℕ → Key) → ℕ → ℕ → ℕ → Key → Type 0
IsLastFree t bound n i j end = (key : Key) → key.cycle < t → ((k : ℕ) → k < n → k ≢ i → k ≢ j → key_lt key (bound k) ≡ true) → key_lt key end ≡ true

module _ {Chip Shared Pins : Type 0} (rules : Rules Chip Shared Pins) where
  -- a key is below the bounds of the others that write the pins of one chip
  abbrev pub IsBelowWriters : Key → List Key → ℕ → Type 0
  IsBelowWriters key bounds i = (j : ℕ) → j < length bounds → j ≢ i → rules.writes j i ≡ true → key_lt key (slice_index_or bounds j no_key) ≡ true

  -- each key below this one lies below cycle t, and below the bounds of those of the first n chips
  -- that write the pins of chip i
  abbrev pub IsLimit : ℕ → (ℕ → Key) → ℕ → ℕ → Key → Type 0
  IsLimit t bound n i end = (key : Key) → key_lt key end ≡ true
      → (key.cycle < t) × ((j : ℕ) → j < n → j ≢ i → rules.writes j i ≡ true → key_lt key (bound j) ≡ true)

  -- and each key that lies so lies below this one
  abbrev pub IsLeastLimit : ℕ → (ℕ → Key) → ℕ → ℕ → Key → Type 0
  IsLeastLimit t bound n i end = (key : Key) → key.cycle < t → ((j : ℕ) → j < n → j ≢ i → rules.writes j i ≡ true → key_lt key (bound j) ≡ true)
      → key_lt key end ≡ true

  -- chip i's next event looks at the bound of chip j: an access at those of all others, a sample at
  -- those of the others that write its pins
  abbrev pub LooksAt : Next → ℕ → ℕ → Type 0
  LooksAt next i j = (j ≢ i) × (next.sample ≡ true → rules.writes j i ≡ true)

  -- the event's key is below each bound that it looks at
  abbrev pub IsFirst : Next → List Key → ℕ → Type 0
  IsFirst next bounds i = (j : ℕ) → j < length bounds → LooksAt next i j → key_lt next.key (bound_in bounds j) ≡ true

  -- the event looks at the bound of this number, and that bound is not above its key
  abbrev pub FindsOther : Next → List Key → ℕ → ℕ → Type 0
  FindsOther next bounds i other = (other < length bounds) × LooksAt next i other × (key_lt next.key (bound_in bounds other) ≡ false)
