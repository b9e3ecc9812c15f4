-- DAA after a sum or a difference of two decimal digits each. What it gives goes by the sums of the
-- upper and of the lower digits alone, and is computed for all of these.
use Rattle.std.proofs.Common.{◌≡◌, ◌==◌, ℕ, ◌+◌, ◌-◌, ◌*◌, ◌/◌, ◌%◌, ◌<◌, ◌≤◌, pos, ◌-ℤ◌, Bool, true, false, nat_le, nat_lt, map, refl, ap, arith}
use Rattle.std.specs.Prelude.{◌&&◌}
use Rattle.std.proofs.lemmas.Bool.{and_parts}
use Rattle.std.proofs.lemmas.Bool.Decides.{nat_tests}
use Rattle.std.proofs.lemmas.Int.{ints}
use Rattle.md_word.proofs.Below.{bit_below}
use Rattle.md_word.proofs.Agree.{range, same_at}
use Rattle.md_word.specs.Coding.{flag_number}
use Rattle.md_word.specs.Width.{difference_overflows, sum_overflows, word_of}
use Rattle.md_word.specs.declared.size.Size.TheVariants.{Byte}
use Rattle.z80_alu.specs.declared.flags80.Flags80.{Flags80}
use Rattle.z80_alu.specs.declared.out80.Out80.{Out80}
use Rattle.z80_alu.specs.Arithmetic.{added, subtracted}
use Rattle.z80_alu.specs.Decimal.{AddsDecimals, IsDecimal, SubtractsDecimals, adjusted, corrected, correction, corrects_upper, decimal_value}
use Rattle.z80_alu.specs.Flags.{byte_of, flags_of, shown, sign, reported}
use Rattle.z80_alu.specs.Laws.{AddsDigits, SubtractsDigits, then_adjusted}
use Rattle.z80_alu.proofs.FlagBits.{flags_of-byte}

-- the flags after a sum of this value, whatever S, Z and P/V are
abbrev summed : Bool → Bool → Bool → ℕ → ℕ → Flags80
summed s z pv u v = record { s = s; z = z; h = nat_le 16 v; pv = pv; n = false; c = nat_le 0x100 (16 * u + v) }

-- DAA gives two digits, and with a hundred for C this number
abbrev is_spelling : Out80 → ℕ → Bool
is_spelling out n = nat_lt (out.value / 16) 10 && nat_lt (out.value % 16) 10 && (decimal_value out.value + 100 * flag_number (flags_of out.f).c == n)

-- of u, the sum of the upper digits, and v, the sum of the lower ones and the carry
abbrev sum_spelt : Bool → Bool → Bool → ℕ → ℕ → Bool
sum_spelt s z pv u v = is_spelling (adjusted ((16 * u + v) % 0x100) (summed s z pv u v)) (10 * u + v)

sums_spelt : (s z pv : Bool) → map (λ k. sum_spelt s z pv (k / 20) (k % 20)) (range 380 0) ≡ map (λ k. true) (range 380 0)
unfolding range adjusted corrected correction corrects_upper shown reported byte_of flags_of lib.Count.ones
sums_spelt s z pv = refl

sum_at : (s z pv : Bool) (u v : ℕ) → u < 19 → v < 20 → sum_spelt s z pv u v ≡ true
sum_at s z pv u v h k =
    let upper : (u * 20 + v) / 20 ≡ u = omega arith in
    let lower : (u * 20 + v) % 20 ≡ v = omega arith in
    rw (upper, lower) at (same_at (λ k. sum_spelt s z pv (k / 20) (k % 20)) (λ k. true) 380 0 (sums_spelt s z pv) (u * 20 + v) (omega arith) (omega arith))

-- what it means that a result spells a number
pub record Spells (out : Out80) (n : ℕ) : Type 0 where
  pub digits : IsDecimal out.value
  pub number : decimal_value out.value + 100 * flag_number (flags_of out.f).c ≡ n

spelt : (out : Out80) (n : ℕ) → is_spelling out n ≡ true → Spells out n
spelt out n e =
    let parts = and_parts (nat_lt (out.value / 16) 10 && nat_lt (out.value % 16) 10) (decimal_value out.value + 100 * flag_number (flags_of out.f).c == n) e in
    let halves = and_parts (nat_lt (out.value / 16) 10) (nat_lt (out.value % 16) 10) parts.0 in
    record { digits = record { upper = grind (arith, nat_tests); lower = grind (arith, nat_tests) }; number = grind (arith, nat_tests) }

-- the same of a number that is 16·u + v
sum_spells : (s z pv : Bool) (whole u v : ℕ) → whole ≡ 16 * u + v → u < 19 → v < 20
    → Spells (adjusted (whole % 0x100) (record { s = s; z = z; h = nat_le 16 v; pv = pv; n = false; c = nat_le 0x100 whole })) (10 * u + v)
sum_spells s z pv whole u v e h k = rw e (spelt (adjusted ((16 * u + v) % 0x100) (summed s z pv u v)) (10 * u + v) (sum_at s z pv u v h k))

-- what ADD and ADC leave to DAA
after_sum : (x y : ℕ) (carry : Bool) → then_adjusted (added x y carry)
    ≡ adjusted ((x + y + flag_number carry) % 0x100) (record { s = sign ((x + y + flag_number carry) % 0x100); z = (x + y + flag_number carry) % 0x100 == 0; h = nat_le 16 (x % 16 + y % 16 + flag_number carry); pv = sum_overflows Byte x y carry; n = false; c = nat_le 0x100 (x + y + flag_number carry) })
unfolding added shown reported
after_sum x y carry = ap (adjusted ((x + y + flag_number carry) % 0x100)) (flags_of-byte _)

adds : (x y : ℕ) (carry : Bool) → IsDecimal x → IsDecimal y → AddsDecimals x y carry (then_adjusted (added x y carry))
adds x y carry dx dy =
    let one = bit_below carry in
    let u : ℕ = x / 16 + y / 16 in
    let v : ℕ = x % 16 + y % 16 + flag_number carry in
    let sum : Spells (then_adjusted (added x y carry)) (10 * u + v) = rw (after_sum x y carry) (sum_spells _ _ _ (x + y + flag_number carry) u v (omega arith) (omega arith) (omega arith)) in
    record { digits = sum.digits; sum = omega (arith, sum.number) }

pub digits_added : AddsDigits
digits_added x y f dx dy = (adds x y false dx dy, adds x y (flags_of f).c dx dy)

-- the flags after a difference of 16·u + v less 16·9 + 10, whatever S, Z and P/V are
abbrev differing : Bool → Bool → Bool → ℕ → ℕ → Flags80
differing s z pv u v = record { s = s; z = z; h = nat_lt v 10; pv = pv; n = true; c = nat_lt (16 * u + v) 154 }

-- of u, 9 above the difference of the upper digits, and v, 10 above that of the lower ones and the
-- borrow: 100 too much where C is clear
abbrev difference_spelt : Bool → Bool → Bool → ℕ → ℕ → Bool
difference_spelt s z pv u v =
    let out = adjusted ((16 * u + v + 102) % 0x100) (differing s z pv u v) in
    nat_lt (out.value / 16) 10 && nat_lt (out.value % 16) 10 && (decimal_value out.value + 100 == 10 * u + v + 100 * flag_number (flags_of out.f).c)

differences_spelt : (s z pv : Bool) → map (λ k. difference_spelt s z pv (k / 20) (k % 20)) (range 380 0) ≡ map (λ k. true) (range 380 0)
unfolding range adjusted corrected correction corrects_upper shown reported byte_of flags_of lib.Count.ones
differences_spelt s z pv = refl

difference_at : (s z pv : Bool) (u v : ℕ) → u < 19 → v < 20 → difference_spelt s z pv u v ≡ true
difference_at s z pv u v h k =
    let upper : (u * 20 + v) / 20 ≡ u = omega arith in
    let lower : (u * 20 + v) % 20 ≡ v = omega arith in
    rw (upper, lower) at (same_at (λ k. difference_spelt s z pv (k / 20) (k % 20)) (λ k. true) 380 0 (differences_spelt s z pv) (u * 20 + v) (omega arith) (omega arith))

-- what it means that a result and its borrow spell a difference, 100 above it
pub record SpellsDifference (out : Out80) (n : ℕ) : Type 0 where
  pub digits : IsDecimal out.value
  pub number : decimal_value out.value + 100 ≡ n + 100 * flag_number (flags_of out.f).c

difference_reported : (out : Out80) (n : ℕ) → (nat_lt (out.value / 16) 10 && nat_lt (out.value % 16) 10 && (decimal_value out.value + 100 == n + 100 * flag_number (flags_of out.f).c)) ≡ true → SpellsDifference out n
difference_reported out n e =
    let parts = and_parts (nat_lt (out.value / 16) 10 && nat_lt (out.value % 16) 10) (decimal_value out.value + 100 == n + 100 * flag_number (flags_of out.f).c) e in
    let halves = and_parts (nat_lt (out.value / 16) 10) (nat_lt (out.value % 16) 10) parts.0 in
    record { digits = record { upper = grind (arith, nat_tests); lower = grind (arith, nat_tests) }; number = grind (arith, nat_tests) }

difference_spells : (s z pv : Bool) (value : ℕ) (half below : Bool) (u v : ℕ) → value ≡ (16 * u + v + 102) % 0x100 → half ≡ nat_lt v 10 → below ≡ nat_lt (16 * u + v) 154 → u < 19 → v < 20
    → SpellsDifference (adjusted value (record { s = s; z = z; h = half; pv = pv; n = true; c = below })) (10 * u + v)
difference_spells s z pv value half below u v e f g h k =
    rw (e, f, g) (difference_reported (adjusted ((16 * u + v + 102) % 0x100) (differing s z pv u v)) (10 * u + v) (difference_at s z pv u v h k))

-- what SUB and SBC leave to DAA
after_difference : (x y : ℕ) (borrow : Bool) → then_adjusted (subtracted x y borrow)
    ≡ adjusted (word_of 0x100 (pos x -ℤ pos y -ℤ pos (flag_number borrow))) (record { s = sign (word_of 0x100 (pos x -ℤ pos y -ℤ pos (flag_number borrow))); z = word_of 0x100 (pos x -ℤ pos y -ℤ pos (flag_number borrow)) == 0; h = nat_lt (x % 16) (y % 16 + flag_number borrow); pv = difference_overflows Byte x y borrow; n = true; c = nat_lt x (y + flag_number borrow) })
unfolding subtracted shown reported
after_difference x y borrow = ap (adjusted (word_of 0x100 (pos x -ℤ pos y -ℤ pos (flag_number borrow)))) (flags_of-byte _)

within_byte : (x y b whole : ℕ) → x < 0x100 → y < 0x100 → b ≤ 1 → whole + y + b ≡ x + 154 → word_of 0x100 (pos x -ℤ pos y -ℤ pos b) ≡ (whole + 102) % 0x100
within_byte x y b whole h k one e = grind (arith, ints)

same_test : (a b c d : ℕ) → a + d ≡ c + b → nat_lt a b ≡ nat_lt c d
same_test a b c d e = grind (arith, nat_tests)

subtracts : (x y : ℕ) (borrow : Bool) → IsDecimal x → IsDecimal y → SubtractsDecimals x y borrow (then_adjusted (subtracted x y borrow))
subtracts x y borrow dx dy =
    let one = bit_below borrow in
    let u : ℕ = x / 16 + 9 - y / 16 in
    let v : ℕ = x % 16 + 10 - (y % 16 + flag_number borrow) in
    let value : word_of 0x100 (pos x -ℤ pos y -ℤ pos (flag_number borrow)) ≡ (16 * u + v + 102) % 0x100 = within_byte x y (flag_number borrow) (16 * u + v) (omega arith) (omega arith) one (omega arith) in
    let half : nat_lt (x % 16) (y % 16 + flag_number borrow) ≡ nat_lt v 10 = same_test _ _ _ _ (omega arith) in
    let below : nat_lt x (y + flag_number borrow) ≡ nat_lt (16 * u + v) 154 = same_test _ _ _ _ (omega arith) in
    let difference : SpellsDifference (then_adjusted (subtracted x y borrow)) (10 * u + v) = rw (after_difference x y borrow) (difference_spells _ _ _ _ _ _ u v value half below (omega arith) (omega arith)) in
    record { digits = difference.digits; difference = omega (arith, difference.number) }

pub digits_subtracted : SubtractsDigits
digits_subtracted x y f dx dy = (subtracts x y false dx dy, subtracts x y (flags_of f).c dx dy)
