-- How the timers of the FM chip's port are at a cycle above all events so far. This project's profile.
use Rattle.std.specs.Prelude.{◌≡◌, ℕ, ◌+◌, ◌/◌, ◌%◌, ◌<◌, true, false}
use Rattle.md_word.specs.Coding.{flag_number}
use Rattle.fm_port.specs.declared.timer.Timer.{Timer}
use Rattle.fm_port.specs.declared.timers.Timers.{Timers}

-- a timer runs where its bit of register 27 is set; one that runs overflows next less than its longest period
-- after the cycle, and the next overflow of one that is stopped is 0
pub record IsTimed (at longest bit : ℕ) (t : Timer) : Type 0 where
  pub run : flag_number t.run ≡ bit
  pub runs : t.run ≡ true → t.next < at + longest
  pub stands : t.run ≡ false → t.next ≡ 0

-- both timers do
pub record AreTimed (at : ℕ) (t : Timers) : Type 0 where
  pub a : IsTimed at 1032192 (t.control % 2) t.a
  pub b : IsTimed at 4128768 (t.control / 2 % 2) t.b
