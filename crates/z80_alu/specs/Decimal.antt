-- The decimal correction of the accumulator after a sum or a difference.
-- Zilog UM0080, DAA; for bytes that are no sums of digits, this project's profile.
use Rattle.std.specs.Prelude.{◌≡◌, ℕ, ◌+◌, ◌-◌, ◌*◌, ◌/◌, ◌%◌, ◌<◌, Bool, ◌||◌, ◌==◌, nat_lt, if◌then◌else◌, bit_xor}
use Rattle.md_word.specs.Coding.{flag_number}
use Rattle.z80_alu.specs.declared.flags80.Flags80.{Flags80}
use Rattle.z80_alu.specs.declared.out80.Out80.{Out80}
use Rattle.z80_alu.specs.Flags.{flags_of, parity, shown}

-- C after it: where C was set, or the accumulator is above 99h
unfoldable pub corrects_upper : ℕ → Flags80 → Bool
corrects_upper a flags = flags.c || nat_lt 0x99 a

-- 6 where H is set or the low digit is above 9, and 60h where C is set afterwards
unfoldable pub correction : ℕ → Flags80 → ℕ
correction a flags =
    (if flags.h || nat_lt 9 (a % 16) then 0x06 else 0) + (if corrects_upper a flags then 0x60 else 0)

-- plus the correction, or minus it where N is set
unfoldable pub corrected : ℕ → Flags80 → ℕ
corrected a flags =
    if flags.n then (a + 0x100 - correction a flags) % 0x100 else (a + correction a flags) % 0x100

-- H is whether bit 4 changed
unfoldable pub adjusted : ℕ → Flags80 → Out80
adjusted a flags =
    shown (corrected a flags) (bit_xor a (corrected a flags) / 16 % 2 == 1) (parity (corrected a flags)) flags.n (corrects_upper a flags)

-- both halves of a byte are digits
pub record IsDecimal (n : ℕ) : Type 0 where
  pub upper : n / 16 < 10
  pub lower : n % 16 < 10

-- the number that a byte of two decimal digits spells
abbrev pub decimal_value : ℕ → ℕ
decimal_value n = n / 16 * 10 + n % 16

-- of two digits each: the sum of the numbers, and a hundred carried
pub record AddsDecimals (x y : ℕ) (carry : Bool) (out : Out80) : Type 0 where
  pub digits : IsDecimal out.value
  pub sum : decimal_value out.value + 100 * flag_number (flags_of out.f).c ≡ decimal_value x + decimal_value y + flag_number carry

-- the difference of the numbers, and a hundred borrowed
pub record SubtractsDecimals (x y : ℕ) (borrow : Bool) (out : Out80) : Type 0 where
  pub digits : IsDecimal out.value
  pub difference : decimal_value out.value + decimal_value y + flag_number borrow ≡ decimal_value x + 100 * flag_number (flags_of out.f).c
