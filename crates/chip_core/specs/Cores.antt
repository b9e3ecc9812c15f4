-- A core as contracts see it.
use Rattle.std.specs.Prelude.{◌≡◌, ℕ, ◌<◌, false, List, [], length, slice_index_or}
use Rattle.md_word.specs.declared.event.Entry.{Entry}
use Rattle.md_word.specs.declared.key.Key.{Key}
use Rattle.md_word.specs.Keys.{key_lt}
use Rattle.chip_core.specs.Chips.{Rules}
use Rattle.chip_core.specs.Events.{Seen, Stands}
use Rattle.chip_core.specs.Machines.{Machine, IsRunTo}

-- the shared state, the chips and their bounds by number, and the journal
pub record CoreValue (Chip Shared : Type 0) : Type 0 where
  pub shared : Shared
  pub chips : List Chip
  pub bounds : List Key
  pub journal : List Entry
  -- how many entries the journal has room for
  pub room : ℕ

-- what stands for the bound of a chip outside the list
abbrev pub no_key : Key
no_key = record { cycle = 0; chip = 0 }

-- a list of bounds by the numbers of the chips
abbrev pub bound_in : List Key → ℕ → Key
bound_in bounds i = slice_index_or bounds i no_key

module _ {Chip Shared Pins : Type 0} (rules : Rules Chip Shared Pins) where
  -- a list of chips by their numbers
  abbrev pub chip_in : List Chip → ℕ → Chip
  chip_in chips i = slice_index_or chips i rules.blank

  -- the key of a chip's next event, by its number
  abbrev pub key_in : List Chip → ℕ → Key
  key_in chips i = (rules.next (chip_in chips i)).key

  -- the shared state and the chips of a core
  abbrev pub machine_of : CoreValue Chip Shared → Machine Chip Shared
  machine_of v = record { shared = v.shared; chip = λ i. chip_in v.chips i }

  -- a core with its chips and bounds by their numbers
  abbrev pub seen : CoreValue Chip Shared → Seen Chip Shared
  seen v = record { machine = machine_of v; bound = λ i. bound_in v.bounds i; journal = v.journal }

  -- as many chips and bounds as the count, each with its number, and no bound above its chip's key
  pub record IsShaped (chips : List Chip) (bounds : List Key) : Type 0 where
    pub chip_count : length chips ≡ rules.count
    pub bound_count : length bounds ≡ rules.count
    pub number : (i : ℕ) → i < rules.count → (key_in chips i).chip ≡ i
    pub bound_number : (i : ℕ) → i < rules.count → (bound_in bounds i).chip ≡ i
    pub under : (i : ℕ) → i < rules.count → key_lt (key_in chips i) (bound_in bounds i) ≡ false

  -- a chip in the place of another: one that can occur, with the same key
  pub record IsStandIn (chip_ok : Chip → Type 0) (old new : Chip) : Type 0 where
    pub key : (rules.next new).key ≡ (rules.next old).key
    pub ok : chip_ok new

  -- what holds of every core
  pub record IsCore (chip_ok : Chip → Type 0) (shared_ok : Shared → Type 0) (v : CoreValue Chip Shared) : Type 0 where
    pub shape : IsShaped v.chips v.bounds
    pub shared : shared_ok v.shared
    pub chip : (i : ℕ) → i < rules.count → chip_ok (chip_in v.chips i)

-- a core with an empty journal is determined by its list of numbers
pub record IsCoded {Chip Shared Pins : Type 0} (rules : Rules Chip Shared Pins) (chip_ok : Chip → Type 0) (shared_ok : Shared → Type 0)
    (code : CoreValue Chip Shared → List ℕ) (core : List ℕ → CoreValue Chip Shared) : Type 0 where
  pub back : (v : CoreValue Chip Shared) → IsCore rules chip_ok shared_ok v → v.journal ≡ [] → core (code v) ≡ record v { room = 0 }

module _ {Chip Shared Pins : Type 0} (rules : Rules Chip Shared Pins) (chip_ok : Chip → Type 0) (shared_ok : Shared → Type 0) where
  -- whatever base the core stood for, it still does
  abbrev pub KeepsStanding : ℕ → CoreValue Chip Shared → CoreValue Chip Shared → Type 0
  KeepsStanding t v w =
      (base : CoreValue Chip Shared) → IsCore rules chip_ok shared_ok base → Stands rules (seen rules base) t (seen rules v) → Stands rules (seen rules base) t (seen rules w)

  -- whatever base the first core stands for, the second is that base's machine after all events
  -- below t, and has its journal
  abbrev pub ReachesEnd : ℕ → CoreValue Chip Shared → CoreValue Chip Shared → Type 0
  ReachesEnd t v w =
      (base : CoreValue Chip Shared) → IsCore rules chip_ok shared_ok base → Stands rules (seen rules base) t (seen rules v)
      → IsRunTo rules (machine_of rules base) t (machine_of rules w) w.journal
