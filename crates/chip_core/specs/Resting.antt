-- A chip that rests while the others go on, and makes its samples later, of the pins that it had.
use Rattle.std.specs.Prelude.{◌≡◌, ◌≢◌, ℕ, ◌<◌, ◌≤◌, false}
use Rattle.md_word.specs.declared.key.Key.{Key}
use Rattle.md_word.specs.Keys.{key_lt}
use Rattle.chip_core.specs.Chips.{AreBelow, Rules, SamplesBelow, sampled}
use Rattle.chip_core.specs.Events.{Reaches, Seen, sampled_on}
use Rattle.chip_core.specs.Looks.{IsLimit}
use Rattle.chip_core.specs.Machines.{put}

module _ {Chip Shared Pins : Type 0} (rules : Rules Chip Shared Pins) where
  -- chip i is another one, and its bound is its key
  abbrev pub with_chip : Seen Chip Shared → ℕ → Chip → Seen Chip Shared
  with_chip s i c = record {
    machine = record { shared = s.machine.shared; chip = put s.machine.chip i c };
    bound = put s.bound i (rules.next c).key;
    journal = s.journal;
  }

  -- the core once chip i has made n samples of these pins
  abbrev pub caught_up : ℕ → ℕ → Pins → Seen Chip Shared → Seen Chip Shared
  caught_up n i pins s = with_chip s i (sampled rules n pins (s.machine.chip i))

  -- chip i made all its samples of these pins before a key
  pub record CatchesUp (end : Key) (i : ℕ) (pins : Pins) (s z : Seen Chip Shared) : Type 0 where
    pub samples : ℕ
    pub are : AreBelow rules end samples pins (s.machine.chip i)
    pub is : z ≡ caught_up samples i pins s

  -- while chip i slept the others led from one core to the other: once it has made its samples of
  -- these pins before a key, that is where enabled events lead
  pub record Sleeps (t : ℕ) (end : Key) (i : ℕ) (pins : Pins) (s z : Seen Chip Shared) : Type 0 where
    pub chip : z.machine.chip i ≡ s.machine.chip i
    pub led : (n : ℕ) → AreBelow rules end n pins (z.machine.chip i) → Reaches rules t s (caught_up n i pins z)

  -- samples of chip i, none or more, each before a limit below t, lead from one core to the other
  pub record SamplesWithin (t i : ℕ) (s z : Seen Chip Shared) : Type 0 where
    pub end : Key
    pub limit : IsLimit rules t s.bound rules.count i end
    pub samples : ℕ
    pub each : (k : ℕ) → k < samples → SamplesBelow rules end ((sampled_on rules k s i).machine.chip i)
    pub is : z ≡ sampled_on rules samples s i

-- the bound of chip i is the first of those of the first n chips but for chip j, and lies below a cycle
pub record IsFirstOther (t : ℕ) (bound : ℕ → Key) (n j i : ℕ) : Type 0 where
  pub inside : i < n
  pub other : i ≢ j
  pub low : (bound i).cycle < t
  pub least : (k : ℕ) → k < n → k ≢ j → key_lt (bound k) (bound i) ≡ false

-- no bound of the first n chips but for chip j lies below a cycle
abbrev pub AreOthersLate : ℕ → (ℕ → Key) → ℕ → ℕ → Type 0
AreOthersLate t bound n j = (k : ℕ) → k < n → k ≢ j → t ≤ (bound k).cycle
