-- What a set of chips does, as functions on the plain data that contracts see.
use Rattle.std.specs.Prelude.{◌≡◌, ◌≢◌, ℕ, zero, suc, ◌+◌, ◌<◌, ◌≤◌, Bool, true, false}
use Rattle.md_word.specs.Clock.{cycle_limit}
use Rattle.md_word.specs.declared.event.Entry.{Entry}
use Rattle.md_word.specs.declared.event.Next.{Next}
use Rattle.md_word.specs.declared.key.Key.{Key}
use Rattle.md_word.specs.Keys.{key_lt}

-- what the locked part of an access leaves
pub record Accessed (Chip Shared : Type 0) : Type 0 where
  pub chip : Chip
  pub shared : Shared
  pub entry : Entry

-- the calls of a set of chips
pub record Rules (Chip Shared Pins : Type 0) : Type 0 where
  pub count : ℕ
  pub next : Chip → Next
  pub perform : Chip → Shared → Accessed Chip Shared
  pub advance : Chip → Chip
  pub pins : Shared → ℕ → Pins
  pub sample : Chip → Pins → Chip
  pub writes : ℕ → ℕ → Bool
  pub gap : ℕ → ℕ
  -- stands for a chip past the count, of which nothing is asked
  pub blank : Chip

module _ {Chip Shared Pins : Type 0} (rules : Rules Chip Shared Pins) where
  -- the chip after n samples of the same pins
  unfoldable pub sampled : ℕ → Pins → Chip → Chip
  sampled zero pins c = c
  sampled (suc n) pins c = rules.sample (sampled n pins c) pins

  -- the chip's next event is a sample, and comes before this key
  abbrev pub SamplesBelow : Key → Chip → Type 0
  SamplesBelow end c = ((rules.next c).sample ≡ true) × (key_lt (rules.next c).key end ≡ true)

  -- so many samples of these pins, at least one and each before this key, lead from one chip to the
  -- other
  pub record SamplesTo (samples : ℕ) (end : Key) (pins : Pins) (before after : Chip) : Type 0 where
    pub some : 1 ≤ samples
    pub each : (k : ℕ) → k < samples → SamplesBelow end (sampled k pins before)
    pub is : after ≡ sampled samples pins before

  -- the same, up to an event that is no sample before the key
  pub record RunsTo (samples : ℕ) (end : Key) (pins : Pins) (before after : Chip) : Type 0 where
    pub led : SamplesTo samples end pins before after
    pub ended : SamplesBelow end after → ⊥

  -- however many samples of these pins the chip makes, its next event is a sample again
  abbrev pub Rests : Pins → Chip → Type 0
  Rests pins c = (n : ℕ) → (rules.next (sampled n pins c)).sample ≡ true

  -- accesses of the chip of this number change no pins
  abbrev pub WritesNone : ℕ → Type 0
  WritesNone i = (j : ℕ) → j < rules.count → rules.writes i j ≡ false

  -- the samples of these pins that come before a key are the first n
  pub record AreBelow (end : Key) (n : ℕ) (pins : Pins) (c : Chip) : Type 0 where
    pub each : (k : ℕ) → k < n → SamplesBelow end (sampled k pins c)
    pub ended : SamplesBelow end (sampled n pins c) → ⊥

  -- the pins of the chip of this number, of a shared state that the laws speak of
  pub record ArePins (shared_ok : Shared → Type 0) (pins : Pins) (i : ℕ) : Type 0 where
    pub shared : Shared
    pub ok : shared_ok shared
    pub is : pins ≡ rules.pins shared i

-- an event leads to a next event of the same chip, at least a gap later
pub record Follows (gap : ℕ → ℕ) (before after : Key) : Type 0 where
  pub number : after.chip ≡ before.chip
  pub later : before.cycle + gap before.chip ≤ after.cycle

module _ {Chip Shared Pins : Type 0} (rules : Rules Chip Shared Pins) (chip_ok : Chip → Type 0) (shared_ok : Shared → Type 0) where
  -- chip number i is at an event of this kind that the laws speak of
  pub record IsDue (c : Chip) (s : Shared) (i : ℕ) (sample : Bool) : Type 0 where
    pub chip : chip_ok c
    pub shared : shared_ok s
    pub number : (rules.next c).key.chip ≡ i
    pub kind : (rules.next c).sample ≡ sample
    pub cycle : (rules.next c).key.cycle < cycle_limit

  -- each access of another chip that makes this entry leaves the pins of chip number j
  abbrev pub LeavesPins : Entry → ℕ → Type 0
  LeavesPins entry j =
      (c : Chip) (s : Shared) (i : ℕ) → IsDue c s i false → i ≢ j → (rules.perform c s).entry ≡ entry → rules.pins (rules.perform c s).shared j ≡ rules.pins s j

  -- the chip is one that the locked part of an access left, and its private work is due
  pub record IsPerformed (c : Chip) : Type 0 where
    pub before : Chip
    pub shared : Shared
    pub number : ℕ
    pub due : IsDue before shared number false
    pub is : c ≡ (rules.perform before shared).chip

  -- what holds of the chips and shared states that the code can have
  pub record Lawful : Type 0 where
    pub some : 1 ≤ rules.count
    pub few : rules.count ≤ 5
    pub gap_some : (i : ℕ) → i < rules.count → 1 ≤ rules.gap i
    pub gap_few : (i : ℕ) → i < rules.count → rules.gap i ≤ cycle_limit
    pub access_chip : (c : Chip) (s : Shared) (i : ℕ) → IsDue c s i false → chip_ok (rules.advance (rules.perform c s).chip)
    pub access_shared : (c : Chip) (s : Shared) (i : ℕ) → IsDue c s i false → shared_ok (rules.perform c s).shared
    pub access_next : (c : Chip) (s : Shared) (i : ℕ) → IsDue c s i false
        → Follows rules.gap (rules.next c).key (rules.next (rules.advance (rules.perform c s).chip)).key
    pub sample_chip : (c : Chip) (s : Shared) (i : ℕ) → IsDue c s i true → chip_ok (rules.sample c (rules.pins s i))
    pub sample_next : (c : Chip) (s : Shared) (i : ℕ) → IsDue c s i true
        → Follows rules.gap (rules.next c).key (rules.next (rules.sample c (rules.pins s i))).key
    -- the entry of an access has the chip's key
    pub entry : (c : Chip) (s : Shared) (i : ℕ) → IsDue c s i false → (rules.perform c s).entry.key ≡ (rules.next c).key
    -- an access leaves the pins that its chip does not write
    pub leaves : (c : Chip) (s : Shared) (i j : ℕ) → IsDue c s i false → rules.writes i j ≡ false
        → rules.pins (rules.perform c s).shared j ≡ rules.pins s j
