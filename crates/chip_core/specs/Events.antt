-- The events of a core: where each is enabled, and what it does.
use Rattle.std.specs.Prelude.{◌≡◌, ◌≢◌, ℕ, zero, suc, ◌+◌, ◌<◌, ◌≤◌, Bool, true, false, cond, List, [], ◌∷◌, ◌++◌, length}
use Rattle.md_word.specs.Clock.{cycle_limit}
use Rattle.md_word.specs.declared.event.Entry.{Entry}
use Rattle.md_word.specs.declared.key.Key.{Key}
use Rattle.md_word.specs.Keys.{key_lt}
use Rattle.chip_core.specs.declared.event.Event.{Event}
use Rattle.chip_core.specs.declared.event.Event.TheVariants.{Announce, Perform, Sample}
use Rattle.chip_core.specs.Chips.{Rules, SamplesBelow}
use Rattle.chip_core.specs.Machines.{Machine, put, key_of, is_sample, accessed, move, mover, IsValid}
use Rattle.chip_core.specs.Standing.{StandsFor}

-- a core: its machine, its bounds and its journal
pub record Seen (Chip Shared : Type 0) : Type 0 where
  pub machine : Machine Chip Shared
  pub bound : ℕ → Key
  pub journal : List Entry

-- an access needs a free place in the journal
abbrev pub HasPlace : ℕ → ℕ → Event → Type 0
HasPlace entered room (Announce i) = Unit {0}
HasPlace entered room (Perform i) = entered < room
HasPlace entered room (Sample i) = Unit {0}

-- how many moves each chip has made, after an event
abbrev pub counted : (ℕ → ℕ) → Event → ℕ → ℕ
counted count (Announce i) = count
counted count (Perform i) = put count i (count i + 1)
counted count (Sample i) = put count i (count i + 1)

module _ {Chip Shared Pins : Type 0} (rules : Rules Chip Shared Pins) where
  -- chips and shared state are ones that the laws speak of, each chip and bound has its number, and
  -- no bound is above its chip's key
  pub record IsTidy (chip_ok : Chip → Type 0) (shared_ok : Shared → Type 0) (s : Seen Chip Shared) : Type 0 where
    pub valid : IsValid rules chip_ok shared_ok s.machine
    pub bound_number : (i : ℕ) → i < rules.count → (s.bound i).chip ≡ i
    pub under : (i : ℕ) → i < rules.count → key_lt (key_of rules s.machine i) (s.bound i) ≡ false

  -- whether a sample of chip i looks at chip j's bound: where accesses of chip j write its pins
  abbrev pub looks_at : ℕ → ℕ → Bool
  looks_at j i = rules.writes j i

  -- chip i's key is below the bound of each other chip
  abbrev pub IsBelowAll : Seen Chip Shared → ℕ → Type 0
  IsBelowAll s i = (j : ℕ) → j < rules.count → j ≢ i → key_lt (key_of rules s.machine i) (s.bound j) ≡ true

  -- the same of the bounds that its sample looks at
  abbrev pub IsBelowLooked : Seen Chip Shared → ℕ → Type 0
  IsBelowLooked s i = (j : ℕ) → j < rules.count → j ≢ i → looks_at j i ≡ true → key_lt (key_of rules s.machine i) (s.bound j) ≡ true

  -- below a cycle, an event may come: an announcement of a key above the bound, or a move in its turn
  abbrev pub IsEnabled : Seen Chip Shared → ℕ → Event → Type 0
  IsEnabled s t (Announce i) = (i < rules.count) × (key_lt (s.bound i) (key_of rules s.machine i) ≡ true)
  IsEnabled s t (Perform i) = (i < rules.count) × (is_sample rules s.machine i ≡ false) × ((key_of rules s.machine i).cycle < t) × IsBelowAll s i
  IsEnabled s t (Sample i) = (i < rules.count) × (is_sample rules s.machine i ≡ true) × ((key_of rules s.machine i).cycle < t) × IsBelowLooked s i

  -- the bound that an access or a sample of chip i leaves
  abbrev pub left_bound : Machine Chip Shared → ℕ → Key
  left_bound m i = record { cycle = (key_of rules m i).cycle + rules.gap i; chip = i }

  -- the core after an event
  abbrev pub after : Seen Chip Shared → Event → Seen Chip Shared
  after s (Announce i) = record { machine = s.machine; bound = put s.bound i (key_of rules s.machine i); journal = s.journal }
  after s (Perform i) = record { machine = move rules s.machine i; bound = put s.bound i (left_bound s.machine i); journal = s.journal ++ (accessed rules s.machine i).entry ∷ [] }
  after s (Sample i) = record { machine = move rules s.machine i; bound = put s.bound i (left_bound s.machine i); journal = s.journal }

  -- chip i's next event comes below a cycle and before the bounds of all others
  pub record IsTurn (t : ℕ) (s : Seen Chip Shared) (i : ℕ) : Type 0 where
    pub inside : i < rules.count
    pub low : (key_of rules s.machine i).cycle < t
    pub first : IsBelowAll s i

  -- chip i waits at an access, below the last cycle
  pub record AwaitsAccess (s : Seen Chip Shared) (i : ℕ) : Type 0 where
    pub inside : i < rules.count
    pub kind : is_sample rules s.machine i ≡ false
    pub low : (key_of rules s.machine i).cycle < cycle_limit

  -- the event that chip i waits at
  abbrev pub own_event : Seen Chip Shared → ℕ → Event
  own_event s i = cond (is_sample rules s.machine i) (Sample i) (Perform i)

  -- the core after the access that chip i waits at, if it waits at one, and the announcement after it
  abbrev pub past_access : Seen Chip Shared → ℕ → Seen Chip Shared
  past_access s i = cond (is_sample rules s.machine i) s (after (after s (Perform i)) (Announce i))

  -- the events of the list, each enabled at its turn, lead from one core to the other
  abbrev pub Leads : ℕ → Seen Chip Shared → List Event → Seen Chip Shared → Type 0
  Leads t s [] z = z ≡ s
  Leads t s (e ∷ es) z = IsEnabled s t e × Leads t (after s e) es z

  -- some list of enabled events leads from one core to the other
  abbrev pub Reaches : ℕ → Seen Chip Shared → Seen Chip Shared → Type 0
  Reaches t s z = (events : List Event) × Leads t s events z

  -- the core after n samples of chip i, each with the announcement of its next event
  unfoldable pub sampled_on : ℕ → Seen Chip Shared → ℕ → Seen Chip Shared
  sampled_on zero s i = s
  sampled_on (suc n) s i = after (after (sampled_on n s i) (Sample i)) (Announce i)

  -- one sample of chip i or more, each before this key, lead from one core to the other
  pub record SamplesOn (end : Key) (i : ℕ) (s z : Seen Chip Shared) : Type 0 where
    pub samples : ℕ
    pub some : 1 ≤ samples
    pub each : (k : ℕ) → k < samples → SamplesBelow rules end ((sampled_on k s i).machine.chip i)
    pub is : z ≡ sampled_on samples s i

  -- the bound of each chip below n is the chip's key
  abbrev pub AreKeys : Seen Chip Shared → ℕ → Type 0
  AreKeys s n = (i : ℕ) → i < n → s.bound i ≡ key_of rules s.machine i

  -- the core stands for the base, with some counts
  abbrev pub Stands : Seen Chip Shared → ℕ → Seen Chip Shared → Type 0
  Stands base t s = (count : ℕ → ℕ) × StandsFor rules base.machine base.bound t s.machine s.bound s.journal count

  -- no bound of a chip below n is below the chip's key
  abbrev pub NoneLags : Seen Chip Shared → ℕ → Type 0
  NoneLags s n = (j : ℕ) → j < n → key_lt (s.bound j) (key_of rules s.machine j) ≡ false

  -- the announcement of the least chip number, and where there is none the event of the chip of
  -- least key
  abbrev pub IsChosen : Seen Chip Shared → Event → Type 0
  IsChosen s (Announce i) = NoneLags s i
  IsChosen s (Perform i) = NoneLags s rules.count × (mover rules s.machine ≡ i)
  IsChosen s (Sample i) = NoneLags s rules.count × (mover rules s.machine ≡ i)

  -- the journal has a free place for each access below t, whatever enabled events lead there
  abbrev pub HasRoom : ℕ → Seen Chip Shared → ℕ → Type 0
  HasRoom t s room = (events : List Event) (z : Seen Chip Shared) → Leads t s events z → length z.journal ≤ room
