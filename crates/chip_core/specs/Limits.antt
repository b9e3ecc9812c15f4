-- How many moves and how many events can lie below a cycle.
use Rattle.std.specs.Prelude.{ℕ, zero, suc, ◌+◌, ◌-◌, ◌*◌, ◌/◌, cond, nat_lt}
use Rattle.chip_core.specs.Chips.{Rules}
use Rattle.chip_core.specs.Machines.{Machine, key_of}

-- the sum over the numbers below n
unfoldable pub total : ℕ → (ℕ → ℕ) → ℕ
total zero f = 0
total (suc n) f = total n f + f n

module _ {Chip Shared Pins : Type 0} (rules : Rules Chip Shared Pins) where
  -- the most moves that chip i can make below t: one at its key, and one a gap from then on
  abbrev pub moves_left : ℕ → Machine Chip Shared → ℕ → ℕ
  moves_left t m i = cond (nat_lt (key_of rules m i).cycle t) ((t - (key_of rules m i).cycle) / rules.gap i + 1) 0

  -- the most moves of all chips
  abbrev pub all_moves_left : ℕ → Machine Chip Shared → ℕ
  all_moves_left t m = total rules.count (λ i. moves_left t m i)

  -- the same where no key is known but that none lies before a cycle
  abbrev pub moves_within : ℕ → ℕ
  moves_within span = total rules.count (λ i. span / rules.gap i + 1)

  -- the most events of a core: an announcement and a move each, and an announcement before the
  -- first
  abbrev pub events_within : ℕ → ℕ
  events_within span = total rules.count (λ i. 2 * (span / rules.gap i + 1) + 1)
