-- Decimal sums and differences of two digits in a byte.
-- M68000 Programmer's Reference Manual, section 4: ABCD, SBCD, NBCD; for bytes that are no digits,
-- this project's profile.
use Rattle.std.specs.Prelude.{◌≡◌, ℕ, ℤ, pos, ◌+◌, ◌-◌, ◌*◌, ◌/◌, ◌%◌, ◌<◌, ◌+ℤ◌, ◌-ℤ◌, Bool, nat_lt, int_lt, ◌==◌, ◌&&◌, if◌then◌else◌}
use Rattle.md_word.specs.Coding.{flag_number}
use Rattle.md_word.specs.Width.{word_of}
use Rattle.md_word.specs.declared.flags.Flags.{Flags}
use Rattle.m68k_alu.specs.declared.out.Out.{Out}

-- the value, X and C by the carry out of the upper digit, Z only cleared, N and V as they were
unfoldable pub decimal : ℕ → Bool → Flags → Out
decimal value carry flags = record {
  value = value;
  flags = record flags { x = carry; z = flags.z && (value == 0); c = carry };
}

-- the low digits' sum, 6 more where it is no digit
unfoldable pub low_sum : ℕ → ℕ → Bool → ℕ
low_sum source target carry =
    let s = target % 16 + source % 16 + flag_number carry in
    if nat_lt 9 s then s + 6 else s

-- with the upper digits, before they are corrected
unfoldable pub digit_sum : ℕ → ℕ → Bool → ℕ
digit_sum source target carry = target - target % 16 + (source - source % 16) + low_sum source target carry

-- ABCD: 60h more where the sum is above 9Fh
unfoldable pub decimal_added : ℕ → ℕ → Flags → Out
decimal_added source target flags =
    let t = digit_sum source target flags.x in
    let carry = nat_lt 0x9f t in
    decimal ((if carry then t + 0x60 else t) % 0x100) carry flags

-- the low digits' difference, 6 less where it is below 0
unfoldable pub low_difference : ℕ → ℕ → Bool → ℤ
low_difference source target borrow =
    let s = pos (target % 16) -ℤ pos (source % 16) -ℤ pos (flag_number borrow) in
    if int_lt s (pos 0) then s -ℤ pos 6 else s

-- with the upper digits, before they are corrected
unfoldable pub digit_difference : ℕ → ℕ → Bool → ℤ
digit_difference source target borrow =
    pos (target - target % 16) -ℤ pos (source - source % 16) +ℤ low_difference source target borrow

-- the difference within a byte, 60h less where the bytes' difference is below 0
unfoldable pub decimal_difference : ℕ → ℕ → Bool → ℕ
decimal_difference source target borrow =
    let t = digit_difference source target borrow in
    word_of 0x100 (if nat_lt target (source + flag_number borrow) then t -ℤ pos 0x60 else t)

-- SBCD, and NBCD from 0: X and C where the bytes' difference is below 0
unfoldable pub decimal_subtracted : ℕ → ℕ → Flags → Out
decimal_subtracted source target flags =
    decimal (decimal_difference source target flags.x) (nat_lt target (source + flag_number flags.x)) flags

-- the number that a byte of two decimal digits spells
abbrev pub decimal_value : ℕ → ℕ
decimal_value n = n / 16 * 10 + n % 16

-- both halves of a byte are digits
pub record IsDecimal (n : ℕ) : Type 0 where
  pub upper : n / 16 < 10
  pub lower : n % 16 < 10

-- of two digits each: the sum of the numbers, and a hundred carried
pub record AddsDecimals (source target : ℕ) (carry : Bool) (out : Out) : Type 0 where
  pub digits : IsDecimal out.value
  pub sum : decimal_value out.value + 100 * flag_number out.flags.c ≡ decimal_value target + decimal_value source + flag_number carry

-- the difference of the numbers, and a hundred borrowed
pub record SubtractsDecimals (source target : ℕ) (borrow : Bool) (out : Out) : Type 0 where
  pub digits : IsDecimal out.value
  pub difference : decimal_value out.value + decimal_value source + flag_number borrow ≡ decimal_value target + 100 * flag_number out.flags.c
