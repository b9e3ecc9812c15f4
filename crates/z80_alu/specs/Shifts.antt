-- Rotates and shifts: the value, and the bit that goes out, which is C.
-- Zilog UM0080, "Rotate and Shift Group"; for SLL, this project's profile.
use Rattle.std.specs.Prelude.{ℕ, ◌+◌, ◌*◌, ◌/◌, ◌%◌, Bool, false, ◌==◌}
use Rattle.md_word.specs.Coding.{flag_number}
use Rattle.z80_alu.specs.declared.flags80.Flags80.{Flags80}
use Rattle.z80_alu.specs.declared.out80.Out80.{Out80}
use Rattle.z80_alu.specs.Flags.{parity, shown, reported}

-- to the left, with this bit coming in on the right; bit 7 goes out
abbrev pub left : ℕ → Bool → ℕ
left value incoming = value * 2 % 0x100 + flag_number incoming

-- to the right, with this bit coming in on the left; bit 0 goes out
abbrev pub right : ℕ → Bool → ℕ
right value incoming = value / 2 + 0x80 * flag_number incoming

-- bit 0
abbrev pub odd : ℕ → Bool
odd value = value % 2 == 1

-- a value with S, Z and parity by it, and the bit that went out
unfoldable pub shifted : ℕ → Bool → Out80
shifted value out = shown value false (parity value) false out

-- the same of the accumulator's rotates: S, Z and P/V as they were
unfoldable pub turned : ℕ → Bool → Flags80 → Out80
turned value out flags = reported value (record flags { h = false; n = false; c = out })

-- a with another low digit. RLD and RRD: the accumulator's low digit, the byte's upper and its
-- lower change places. Of RLD the upper comes into the accumulator, of RRD the lower
abbrev pub with_low_digit : ℕ → ℕ → ℕ
with_low_digit a digit = a / 16 * 16 + digit

-- RLD and RRD: the accumulator with S, Z and parity by it, and C as it was
unfoldable pub digit_rotated : ℕ → Flags80 → Out80
digit_rotated value flags = shown value false (parity value) false flags.c

-- what RLD leaves in memory
unfoldable pub rld_memory : ℕ → ℕ → ℕ
rld_memory a b = b % 16 * 16 + a % 16

-- what RRD leaves in memory
unfoldable pub rrd_memory : ℕ → ℕ → ℕ
rrd_memory a b = a % 16 * 16 + b / 16
