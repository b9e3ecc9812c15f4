-- The FM chip's port: latches, timers, and the writes that the synthesis has not taken.
-- Sega, Genesis Software Manual, FM addresses; how many writes are held is this project's profile.
use Rattle.std.specs.Prelude.{ℕ, ◌<◌, ◌≤◌, ◌==◌, if◌then◌else◌, List, [], length, All}
use Rattle.std.proofs.Common.{lit≤}
use Rattle.md_word.specs.declared.key.Key.{Key}
use Rattle.sound_writes.specs.Held as held
use Rattle.sound_writes.specs.Order as order
use Rattle.fm_port.specs.declared.write.FmWrite.{FmWrite}
use Rattle.fm_port.specs.declared.timers.Timers.{Timers}
use Rattle.fm_port.specs.Stamp.{stamp_of}
use Rattle.fm_port.specs.Timers as timers
use Rattle.fm_port.specs.Timers.{IsTimers}

-- latches and timers, which accesses look at, and the writes on their way to the synthesis
pub record Port : Type 0 where
  -- the registers that the two data addresses write
  pub first : ℕ
  pub second : ℕ
  pub timers : Timers
  pub writes : List FmWrite

-- what holds of each port: at most 1,024 writes, all by the two processors
pub record IsPort (p : Port) : Type 0 where
  pub timers : IsTimers p.timers
  pub most : length p.writes ≤ 1024
  pub chips : All (λ w. w.key.chip < 2) p.writes

-- at power-on it holds no write, and all else is 0
abbrev pub at_power_on : Port
at_power_on = record { first = 0; second = 0; timers = timers.at_power_on; writes = [] }

-- a write to a register of the first port
abbrev pub first_write : Key → ℕ → ℕ → FmWrite
first_write key register value = record { key = key; port = 0; register = register; value = value; port_in_range = lit≤ tt }

-- a write to a register of the second port
abbrev pub second_write : Key → ℕ → ℕ → FmWrite
second_write key register value = record { key = key; port = 1; register = register; value = value; port_in_range = lit≤ tt }

-- a reset, which is among the writes as one of port 2
abbrev pub reset_write : Key → FmWrite
reset_write key = record { key = key; port = 2; register = 0; value = 0; port_in_range = lit≤ tt }

-- a write goes after those that are held, and is lost where 1,024 are
abbrev pub held_with : List FmWrite → FmWrite → List FmWrite
held_with writes w = held.held_with writes w

-- addresses 0 and 2 latch a register, 1 and 3 write it; the first port's may be a timer's
unfoldable pub written : Key → ℕ → ℕ → Port → Port
written key address value p =
    if address == 0 then record p { first = value } else (
    if address == 2 then record p { second = value } else (
    if address == 1 then record p {
      timers = timers.timed key.cycle p.first value p.timers;
      writes = held_with p.writes (first_write key p.first value);
    } else record p { writes = held_with p.writes (second_write key p.second value) }))

-- a reset makes all 0 but the writes, after which it is
unfoldable pub reset : Key → Port → Port
reset key p = record at_power_on { writes = held_with p.writes (reset_write key) }

-- the writes stamped below a cycle, in their order
abbrev pub taken_below : ℕ → List FmWrite → List FmWrite
taken_below cycle writes = held.taken_below stamp_of cycle writes

-- the writes stamped at a cycle or later, in their order
abbrev pub left_from : ℕ → List FmWrite → List FmWrite
left_from cycle writes = held.left_from stamp_of cycle writes

-- stamped from one cycle on and below another, in the order of their stamps
abbrev pub IsInOrder : ℕ → ℕ → List FmWrite → Type 0
IsInOrder from to writes = order.IsInOrder stamp_of from to writes
