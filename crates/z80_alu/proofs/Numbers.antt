-- ADD, ADC, SUB and SBC are sums and differences of whole numbers, and of numbers in two's
-- complement where they do not overflow.
use Rattle.std.proofs.Common.{◌≡◌, ℕ, pos, ◌+◌, ◌*◌, ◌%◌, ◌<◌, ◌+ℤ◌, ◌-ℤ◌, Bool, true, false, nat_le, nat_lt, refl, ap, arith}
use Rattle.std.proofs.lemmas.Bool.Decides.{nat_tests}
use Rattle.std.proofs.lemmas.Int.{ints}
use Rattle.md_word.proofs.Below.{bit_below}
use Rattle.md_word.specs.Coding.{flag_number}
use Rattle.md_word.specs.Width.{difference_overflows, fits, signed_of, sum_overflows, word_of}
use Rattle.md_word.specs.declared.size.Size.TheVariants.{Byte}
use Rattle.z80_alu.specs.declared.flags80.Flags80.{Flags80}
use Rattle.z80_alu.specs.Arithmetic.{added, subtracted}
use Rattle.z80_alu.specs.Flags.{flags_of, shown, reported}
use Rattle.z80_alu.specs.Laws.{AddsNumbers, IsDifference, IsSum, SubtractsNumbers}
use Rattle.z80_alu.proofs.FlagBits.{flags_of-byte}

whole_sum : (n : ℕ) → n < 0x200 → n % 0x100 + 0x100 * flag_number (nat_le 0x100 n) ≡ n
whole_sum n below = grind (arith, nat_tests)

signed_sum : (a b : ℕ) (carry : Bool) → a < 0x100 → b < 0x100 → sum_overflows Byte a b carry ≡ false
    → signed_of Byte ((a + b + flag_number carry) % 0x100) ≡ signed_of Byte a +ℤ signed_of Byte b +ℤ pos (flag_number carry)
unfolding sum_overflows fits signed_of
signed_sum a b true h k e = grind (arith, ints, nat_tests)
signed_sum a b false h k e = grind (arith, ints, nat_tests)

-- C and P/V of a sum
carry_of_sum : (a b : ℕ) (carry : Bool) → (flags_of (added a b carry).f).c ≡ nat_le 0x100 (a + b + flag_number carry)
unfolding added shown reported
carry_of_sum a b carry = ap (λ (flags : Flags80). flags.c) (flags_of-byte _)

overflow_of_sum : (a b : ℕ) (carry : Bool) → (flags_of (added a b carry).f).pv ≡ sum_overflows Byte a b carry
unfolding added shown reported
overflow_of_sum a b carry = ap (λ (flags : Flags80). flags.pv) (flags_of-byte _)

value_of_sum : (a b : ℕ) (carry : Bool) → (added a b carry).value ≡ (a + b + flag_number carry) % 0x100
unfolding added shown reported
value_of_sum a b carry = refl

sum : (a b : ℕ) (carry : Bool) → a < 0x100 → b < 0x100 → IsSum a b carry (added a b carry)
sum a b carry h k =
    let one = bit_below carry in
    record {
      whole = rw (carry_of_sum a b carry, value_of_sum a b carry) (whole_sum (a + b + flag_number carry) (omega arith));
      signed = λ e. rw (value_of_sum a b carry) (signed_sum a b carry h k (rw (overflow_of_sum a b carry) at e));
    }

pub numbers_added : AddsNumbers
numbers_added a b f h k = (sum a b false h k, sum a b (flags_of f).c h k)

-- C and P/V of a difference
borrow_of_difference : (a b : ℕ) (borrow : Bool) → (flags_of (subtracted a b borrow).f).c ≡ nat_lt a (b + flag_number borrow)
unfolding subtracted shown reported
borrow_of_difference a b borrow = ap (λ (flags : Flags80). flags.c) (flags_of-byte _)

overflow_of_difference : (a b : ℕ) (borrow : Bool) → (flags_of (subtracted a b borrow).f).pv ≡ difference_overflows Byte a b borrow
unfolding subtracted shown reported
overflow_of_difference a b borrow = ap (λ (flags : Flags80). flags.pv) (flags_of-byte _)

value_of_difference : (a b : ℕ) (borrow : Bool) → (subtracted a b borrow).value ≡ word_of 0x100 (pos a -ℤ pos b -ℤ pos (flag_number borrow))
unfolding subtracted shown reported
value_of_difference a b borrow = refl

whole_difference : (a b : ℕ) (borrow : Bool) → a < 0x100 → b < 0x100
    → word_of 0x100 (pos a -ℤ pos b -ℤ pos (flag_number borrow)) + b + flag_number borrow ≡ a + 0x100 * flag_number (nat_lt a (b + flag_number borrow))
whole_difference a b true h k = grind (arith, ints, nat_tests)
whole_difference a b false h k = grind (arith, ints, nat_tests)

signed_difference : (a b : ℕ) (borrow : Bool) → a < 0x100 → b < 0x100 → difference_overflows Byte a b borrow ≡ false
    → signed_of Byte (word_of 0x100 (pos a -ℤ pos b -ℤ pos (flag_number borrow))) ≡ signed_of Byte a -ℤ signed_of Byte b -ℤ pos (flag_number borrow)
unfolding difference_overflows fits signed_of
signed_difference a b true h k e = grind (arith, ints, nat_tests)
signed_difference a b false h k e = grind (arith, ints, nat_tests)

difference : (a b : ℕ) (borrow : Bool) → a < 0x100 → b < 0x100 → IsDifference a b borrow (subtracted a b borrow)
difference a b borrow h k = record {
  whole = rw (borrow_of_difference a b borrow, value_of_difference a b borrow) (whole_difference a b borrow h k);
  signed = λ e. rw (value_of_difference a b borrow) (signed_difference a b borrow h k (rw (overflow_of_difference a b borrow) at e));
}

pub numbers_subtracted : SubtractsNumbers
numbers_subtracted a b f h k = (difference a b false h k, difference a b (flags_of f).c h k)
