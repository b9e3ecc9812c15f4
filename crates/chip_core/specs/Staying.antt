-- One chip that makes several events while the others make none.
use Rattle.std.specs.Prelude.{◌≡◌, ◌≢◌, ℕ, zero, suc, ◌-◌, ◌<◌, ◌≤◌, true, false, cond, List, [], ◌∷◌, ◌++◌, Option, MatchOption}
use Rattle.md_word.specs.declared.event.Entry.{Entry}
use Rattle.md_word.specs.declared.key.Key.{Key}
use Rattle.md_word.specs.Keys.{key_lt}
use Rattle.chip_core.specs.declared.event.Event.TheVariants.{Announce}
use Rattle.chip_core.specs.Chips.{LeavesPins, Rules}
use Rattle.chip_core.specs.Events.{Seen, after, own_event}
use Rattle.chip_core.specs.Looks.{IsFreeTo}
use Rattle.chip_core.specs.Machines.{is_sample, key_of}

-- the chip, with what all chips share and the journal
pub record Staying (Chip Shared : Type 0) : Type 0 where
  pub chip : Chip
  pub shared : Shared
  pub journal : List Entry

module _ {Chip Shared Pins : Type 0} (rules : Rules Chip Shared Pins) where
  -- after the sample that is due, of the pins of chip number i
  abbrev pub past_sample : ℕ → Staying Chip Shared → Staying Chip Shared
  past_sample i a = record { chip = rules.sample a.chip (rules.pins a.shared i); shared = a.shared; journal = a.journal }

  -- after the access that is due, with its private work
  abbrev pub past_own_access : Staying Chip Shared → Staying Chip Shared
  past_own_access a = record {
    chip = rules.advance (rules.perform a.chip a.shared).chip;
    shared = (rules.perform a.chip a.shared).shared;
    journal = a.journal ++ (rules.perform a.chip a.shared).entry ∷ [];
  }

  -- after n events of chip number i
  unfoldable pub stayed : ℕ → ℕ → Staying Chip Shared → Staying Chip Shared
  stayed zero i a = a
  stayed (suc n) i a = cond (rules.next (stayed n i a).chip).sample (past_sample i (stayed n i a)) (past_own_access (stayed n i a))

  -- so many events of chip number i, at least one and each before this key, lead from one to the other
  pub record StaysTo (n i : ℕ) (end : Key) (before after : Staying Chip Shared) : Type 0 where
    pub some : 1 ≤ n
    pub each : (k : ℕ) → k < n → key_lt (rules.next (stayed k i before).chip).key end ≡ true
    pub is : after ≡ stayed n i before

  module _ (chip_ok : Chip → Type 0) (shared_ok : Shared → Type 0) where
    -- the accesses among the first n events of chip number i leave the pins of chip j, by their entries
    abbrev pub LeavesAll : ℕ → ℕ → ℕ → Staying Chip Shared → Type 0
    LeavesAll n i j a =
        (k : ℕ) → k < n → (rules.next (stayed k i a).chip).sample ≡ false
        → LeavesPins rules chip_ok shared_ok (rules.perform (stayed k i a).chip (stayed k i a).shared).entry j

    -- the last of n events came at this key, and those before it leave the pins of chip j
    pub record Wakes (n i j : ℕ) (a : Staying Chip Shared) (key : Key) : Type 0 where
      pub before : LeavesAll (n - 1) i j a
      pub last : key ≡ (rules.next (stayed (n - 1) i a).chip).key

  -- the core after n events of chip i, each with the announcement of its next one
  unfoldable pub turned : ℕ → ℕ → Seen Chip Shared → Seen Chip Shared
  turned zero i s = s
  turned (suc n) i s = after rules (after rules (turned n i s) (own_event rules (turned n i s) i)) (Announce i)

  -- each of the first n events of chip i leaves the pins of chip j
  abbrev pub KeepsPins : ℕ → ℕ → ℕ → Seen Chip Shared → Type 0
  KeepsPins n i j s = (k : ℕ) → k < n → rules.pins (turned (suc k) i s).machine.shared j ≡ rules.pins (turned k i s).machine.shared j

  -- n events of chip i leave the pins of chip j, but for the last, which came at this key
  pub record IsWoken (n i j : ℕ) (s : Seen Chip Shared) (key : Key) : Type 0 where
    pub some : 1 ≤ n
    pub before : KeepsPins (n - 1) i j s
    pub last : key ≡ key_of rules (turned (n - 1) i s).machine i

  -- events of chip i, each before this key and one at least where an access is due, lead from one core to
  -- the other; the last may have woken chip j, another one
  pub record StaysOn (end : Key) (i j : ℕ) (s z : Seen Chip Shared) (woke : Option Key) : Type 0 where
    pub events : ℕ
    pub some : is_sample rules s.machine i ≡ false → 1 ≤ events
    pub each : (k : ℕ) → k < events → key_lt (key_of rules (turned k i s).machine i) end ≡ true
    pub is : z ≡ turned events i s
    pub pins : j ≢ i → MatchOption woke (KeepsPins events i j s) (IsWoken events i j s)

  -- and before them nothing of the others comes but of chip j, below cycle t
  pub record TakesTurn (t i j : ℕ) (s z : Seen Chip Shared) (woke : Option Key) : Type 0 where
    pub end : Key
    pub free : IsFreeTo t s.bound rules.count i j end
    pub stays : StaysOn end i j s z woke
