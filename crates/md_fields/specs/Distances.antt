-- How far a number lies from another, as rules of a saved state ask.
use Rattle.std.specs.Prelude.{ℕ, ◌-◌, ◌==◌, ◌&&◌, Bool, nat_le}

-- a processor's next event comes at most 2^20 cycles from `at` on
abbrev pub is_soon : ℕ → ℕ → Bool
is_soon next at = nat_le at next && nat_le (next - at) 0x10_0000

-- a number is so much above another
abbrev pub is_after : ℕ → ℕ → ℕ → Bool
is_after later earlier distance = nat_le earlier later && (later - earlier == distance)
