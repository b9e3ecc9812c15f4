-- When a core stands for a base: it holds what the base's run leads to, each chip as far as it has
-- come.
use Rattle.std.specs.Prelude.{◌≡◌, ◌≢◌, ℕ, ◌+◌, ◌<◌, true, ◌⊎◌, List, All}
use Rattle.md_word.specs.declared.event.Entry.{Entry}
use Rattle.md_word.specs.declared.key.Key.{Key}
use Rattle.md_word.specs.Keys.{key_lt}
use Rattle.chip_core.specs.Chips.{Rules}
use Rattle.chip_core.specs.Machines.{Machine, of_chip, key_of, mover, run, journal, made, move_key, AllBelow, OnPath}

module _ {Chip Shared Pins : Type 0} (rules : Rules Chip Shared Pins) where
  -- the bound that chip i's n-th move left: a gap after that move
  pub record IsLeft (m : Machine Chip Shared) (i n : ℕ) (bound : Key) : Type 0 where
    pub moves : ℕ
    pub mover : mover rules (run rules m moves) ≡ i
    pub made : made rules m i moves + 1 ≡ n
    pub cycle : bound.cycle ≡ (move_key rules m moves).cycle + rules.gap i
    pub number : bound.chip ≡ i

  -- the chip's next key, or the key that was there before it was announced
  abbrev pub IsBound : Machine Chip Shared → (ℕ → Key) → ℕ → ℕ → Key → Key → Type 0
  IsBound m opening i n next bound = (bound ≡ next) ⊎ ((n ≡ 0) × (bound ≡ opening i)) ⊎ IsLeft m i n bound

  -- the core with this machine, these bounds and this journal stands for the base at t, with these
  -- counts of moves
  pub record StandsFor (base : Machine Chip Shared) (opening : ℕ → Key) (t : ℕ) (now : Machine Chip Shared) (bound : ℕ → Key) (entered : List Entry) (count : ℕ → ℕ) : Type 0 where
    -- chip i is where its first moves lead, all below t
    pub path : (i : ℕ) → i < rules.count → OnPath rules base t i (count i) (now.chip i)
    -- the accesses so far are the base's first ones, in the journal and in the shared state
    pub accesses : ℕ
    pub prefix_below : AllBelow rules base t accesses
    pub prefix : entered ≡ journal rules base accesses
    pub shared : now.shared ≡ (run rules base accesses).shared
    -- chip i's entries are the accesses among its first moves
    pub own : (i n : ℕ) → i < rules.count → AllBelow rules base t n → made rules base i n ≡ count i
        → of_chip i entered ≡ of_chip i (journal rules base n)
    pub bounds : (i : ℕ) → i < rules.count → IsBound base opening i (count i) (key_of rules now i) (bound i)
    -- the bounds of all other chips are above the key of an access
    pub ahead : All (λ (e : Entry). (j : ℕ) → j < rules.count → j ≢ e.key.chip → key_lt e.key (bound j) ≡ true) entered
