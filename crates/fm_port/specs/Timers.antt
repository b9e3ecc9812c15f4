-- The two timers of the FM chip. Yamaha, YM2608 Application Manual, timers; a period is in cycles of
-- the master clock, 1,008 to a sample.
use Rattle.std.specs.Prelude.{ℕ, zero, suc, ◌+◌, ◌-◌, ◌*◌, ◌/◌, ◌%◌, ◌^◌, ◌≤◌, ◌==◌, nat_lt, nat_le, Bool, false, not, ◌&&◌, ◌||◌, if◌then◌else◌}
use Rattle.md_word.specs.Clock.{batch as batch_length, fm_sample}
use Rattle.fm_port.specs.declared.timer.Timer.{Timer}
use Rattle.fm_port.specs.declared.timers.Timers.{Timers}

-- an overflow: the flag rises where it is enabled, and the next one comes a period later
abbrev pub overflowed : ℕ → Bool → Timer → Timer
overflowed period enabled t = record { run = t.run; next = t.next + period; flag = t.flag || enabled }

-- whether an overflow is below a cycle
abbrev pub is_due : ℕ → Timer → Bool
is_due cycle t = t.run && nat_lt t.next cycle

-- the last overflow below a cycle, where the next one is
unfoldable pub last_overflow : ℕ → ℕ → ℕ → ℕ
last_overflow next cycle period = cycle - 1 - (cycle - 1 - next) % period

-- the overflows below a cycle, one after another, at most n of them
unfoldable pub settled_by : ℕ → ℕ → ℕ → Bool → Timer → Timer
settled_by zero cycle period enabled t = t
settled_by (suc n) cycle period enabled t =
    if is_due cycle t then settled_by n cycle period enabled (overflowed period enabled t) else t

-- all overflows below a cycle: they are fewer than the cycles
unfoldable pub settled : ℕ → ℕ → Bool → Timer → Timer
settled cycle period enabled t = settled_by cycle cycle period enabled t

-- a timer that starts to run overflows first a period later
unfoldable pub controlled : ℕ → ℕ → Bool → Bool → Timer → Timer
controlled cycle period run clears t = record {
  run = run;
  next = if run then (if t.run then t.next else cycle + period) else 0;
  flag = t.flag && not clears;
}

-- the flag that a read shows: an overflow at its very cycle counts
unfoldable pub shown : ℕ → Bool → Timer → Bool
shown cycle enabled t = t.flag || ((t.run && (t.next == cycle)) && enabled)

-- what holds of each timer
pub record IsTimer (t : Timer) : Type 0 where
  pub next : t.next ≤ 2 ^ 51

-- what holds of both
pub record IsTimers (t : Timers) : Type 0 where
  pub a : IsTimer t.a
  pub b : IsTimer t.b

-- by registers 24 and 25, which have ten bits: a sample for each step up to 1,024
unfoldable pub period_a : Timers → ℕ
period_a t = fm_sample * (1024 - (t.high_a * 4 + t.low_a % 4))

-- by register 26: sixteen samples for each step up to 256
unfoldable pub period_b : Timers → ℕ
period_b t = batch_length * (256 - t.number_b)

-- both timers with the overflows below a cycle made
unfoldable pub both_settled : ℕ → Timers → Timers
both_settled cycle t = record {
  high_a = t.high_a;
  low_a = t.low_a;
  number_b = t.number_b;
  control = t.control;
  a = settled cycle (period_a t) (t.control / 4 % 2 == 1) t.a;
  b = settled cycle (period_b t) (t.control / 8 % 2 == 1) t.b;
}

-- both timers after a byte for register 27: bits 0 and 1 run, 2 and 3 enable, 4 and 5 clear
unfoldable pub both_controlled : ℕ → ℕ → Timers → Timers
both_controlled cycle value t = record {
  high_a = t.high_a;
  low_a = t.low_a;
  number_b = t.number_b;
  control = value;
  a = controlled cycle (period_a t) (value % 2 == 1) (value / 16 % 2 == 1) t.a;
  b = controlled cycle (period_b t) (value / 2 % 2 == 1) (value / 32 % 2 == 1) t.b;
}

-- a byte for a timers' register at a cycle
unfoldable pub stored : ℕ → ℕ → ℕ → Timers → Timers
stored cycle register value t =
    if register == 0x24 then record t { high_a = value } else (
    if register == 0x25 then record t { low_a = value } else (
    if register == 0x26 then record t { number_b = value } else both_controlled cycle value t))

-- a byte for any register, after the overflows below its cycle
unfoldable pub timed : ℕ → ℕ → ℕ → Timers → Timers
timed cycle register value t =
    if nat_le 0x24 register && nat_le register 0x27 then stored cycle register value (both_settled cycle t) else t

-- a flag as a bit
abbrev pub bit : Bool → ℕ
bit b = if b then 1 else 0

-- what a read shows: bit 0 timer A's flag, bit 1 timer B's
unfoldable pub status : ℕ → Timers → ℕ
status cycle t =
    bit (shown cycle (t.control / 4 % 2 == 1) t.a) + 2 * bit (shown cycle (t.control / 8 % 2 == 1) t.b)

-- a timer that is stopped
abbrev pub idle : Timer
idle = record { run = false; next = 0; flag = false }

-- at power-on both are stopped, and their registers are 0
abbrev pub at_power_on : Timers
at_power_on = record { high_a = 0; low_a = 0; number_b = 0; control = 0; a = idle; b = idle }
