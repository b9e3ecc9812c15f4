-- Shifts and rotations.
-- M68000 Programmer's Reference Manual, section 4: ASL, ASR, LSL, LSR, ROL, ROR, ROXL, ROXR.
use Rattle.std.specs.Prelude.{◌≡◌, ◌≤◌, ℕ, ℤ, pos, negsuc, ◌+◌, ◌-◌, ◌*◌, ◌/◌, ◌%◌, ◌^◌, ◌*ℤ◌, Bool, false, not, nat_le, ◌==◌, if◌then◌else◌}
use Rattle.md_word.specs.Coding.{flag_number}
use Rattle.md_word.specs.Width.{fits, half_of, modulus_of, signed_of, width_of, word_of}
use Rattle.md_word.specs.declared.flags.Flags.{Flags}
use Rattle.md_word.specs.declared.size.Size.{Size}
use Rattle.m68k_alu.specs.declared.out.Out.{Out}
use Rattle.m68k_alu.specs.Results.{shown}

-- a signed number halved so many times, each time rounded down
abbrev pub halved : ℤ → ℕ → ℤ
halved (pos n) count = pos (n / 2 ^ count)
halved (negsuc n) count = negsuc (n / 2 ^ count)

-- X and C take the last bit out; where nothing moves, X stays and C is cleared
unfoldable pub shifted : Size → ℕ → ℕ → Bool → Bool → Flags → Out
shifted size count value v out flags =
    shown size value (if count == 0 then flags.x else out) v out

-- the last bit out at the top: the bit above the size, once the number has moved
unfoldable pub out_above : Size → ℕ → ℕ → Bool
out_above size count target = target * 2 ^ count / modulus_of size % 2 == 1

-- the last bit out at the bottom: the lowest bit of twice the number, once it has moved
unfoldable pub out_below : ℕ → ℤ → Bool
out_below count number = word_of 2 (halved (number *ℤ pos 2) count) == 1

-- the signed number doubled so many times leaves its range: on the way its sign changes
unfoldable pub doubling_overflows : Size → ℕ → ℕ → Bool
doubling_overflows size count target = not (fits size (signed_of size target *ℤ pos (2 ^ count)))

-- ASL and LSL, with this V: the low part of the number doubled so many times
unfoldable pub shifted_left : Size → ℕ → ℕ → Bool → Flags → Out
shifted_left size count target v flags =
    shifted size count (target * 2 ^ count % modulus_of size) v (out_above size count target) flags

-- ASR of a signed number and LSR of one without a sign: V is cleared
unfoldable pub shifted_right : Size → ℕ → ℤ → Flags → Out
shifted_right size count number flags =
    shifted size count (word_of (modulus_of size) (halved number count)) false (out_below count number) flags

-- a number of so many bits rotated: the upper ones, count of them, go below the others
unfoldable pub rotated : ℕ → ℕ → ℕ → ℕ
rotated width count number = number % 2 ^ (width - count) * 2 ^ count + number / 2 ^ (width - count)

-- ROL: the last bit out is the lowest of the result
unfoldable pub rotated_left : Size → ℕ → ℕ → Flags → Out
rotated_left size count target flags =
    let value = rotated (width_of size) (count % width_of size) target in
    shown size value flags.x false (if count == 0 then false else (value % 2 == 1))

-- ROR: the last bit out is the highest of the result
unfoldable pub rotated_right : Size → ℕ → ℕ → Flags → Out
rotated_right size count target flags =
    let value = rotated (width_of size) (width_of size - count % width_of size) target in
    shown size value flags.x false (if count == 0 then false else nat_le (half_of size) value)

-- ROXL and ROXR rotate the number with X above it, one bit more: `by` places to the left
unfoldable pub rotated_with_extend : Size → ℕ → ℕ → Flags → Out
rotated_with_extend size by target flags =
    let number = rotated (width_of size + 1) by (flag_number flags.x * modulus_of size + target) in
    let out = number / modulus_of size == 1 in
    shown size (number % modulus_of size) out false out

-- the sign bit, after shifts to the left by any of up to so many places, is still the target's
abbrev pub SignStays : Size → ℕ → ℕ → Type 0
SignStays size count target =
    (k : ℕ) → k ≤ count → nat_le (half_of size) (target * 2 ^ k % modulus_of size) ≡ nat_le (half_of size) target
