-- After CMP the conditions are comparisons of the numbers.
use Rattle.std.proofs.Common.{◌≡◌, ℕ, ◌+◌, ◌-◌, ◌%◌, ◌<◌, ◌==◌, not, nat_lt, nat_le, refl, ap, arith}
use Rattle.std.specs.Prelude.{int_lt, int_le, ◌-ℤ◌}
use Rattle.std.proofs.lemmas.Bool.Decides.{nat_tests}
use Rattle.std.proofs.lemmas.Int.{ints}
use Rattle.md_word.specs.Width.{difference_overflows, fits, half_of, modulus_of, signed_of}
use Rattle.md_word.specs.declared.flags.Flags.{Flags}
use Rattle.md_word.specs.declared.size.Size.{Size}
use Rattle.md_word.specs.declared.size.Size.TheVariants.{Byte, Word, Long}
use Rattle.m68k_decode.specs.declared.condition.Condition.TheVariants as conditions
use Rattle.m68k_alu.specs.Arithmetic.{compared, difference, subtracted}
use Rattle.m68k_alu.specs.Results.{shown}
use Rattle.m68k_access.specs.Conditions.{holds}
use Rattle.m68k_access.specs.Laws.{ConditionsCompare, flags_after}

carry_set : (size : Size) (source target : ℕ) (flags : Flags) → source < modulus_of size → target < modulus_of size → holds conditions.CarrySet (flags_after size source target flags) ≡ nat_lt target source
unfolding compared subtracted shown
carry_set size source target flags s t = grind (arith, nat_tests)

equal : (size : Size) (source target : ℕ) (flags : Flags) → source < modulus_of size → target < modulus_of size → holds conditions.Equal (flags_after size source target flags) ≡ (target == source)
unfolding compared subtracted shown difference
equal Byte source target flags s t = grind (arith, ints, nat_tests)
equal Word source target flags s t = grind (arith, ints, nat_tests)
equal Long source target flags s t = grind (arith, ints, nat_tests)

less : (size : Size) (source target : ℕ) (flags : Flags) → source < modulus_of size → target < modulus_of size → holds conditions.LessThan (flags_after size source target flags) ≡ int_lt (signed_of size target) (signed_of size source)
unfolding compared subtracted shown difference difference_overflows fits signed_of
less Byte source target flags s t = grind (arith, ints, nat_tests)
less Word source target flags s t = grind (arith, ints, nat_tests)
less Long source target flags s t = grind (arith, ints, nat_tests)

higher : (size : Size) (source target : ℕ) (flags : Flags) → source < modulus_of size → target < modulus_of size → holds conditions.High (flags_after size source target flags) ≡ nat_lt source target
unfolding compared subtracted shown difference
higher Byte source target flags s t = grind (arith, ints, nat_tests)
higher Word source target flags s t = grind (arith, ints, nat_tests)
higher Long source target flags s t = grind (arith, ints, nat_tests)

low_or_same : (size : Size) (source target : ℕ) (flags : Flags) → source < modulus_of size → target < modulus_of size → holds conditions.LowOrSame (flags_after size source target flags) ≡ nat_le target source
unfolding compared subtracted shown difference
low_or_same Byte source target flags s t = grind (arith, ints, nat_tests)
low_or_same Word source target flags s t = grind (arith, ints, nat_tests)
low_or_same Long source target flags s t = grind (arith, ints, nat_tests)

greater_or_equal : (size : Size) (source target : ℕ) (flags : Flags) → source < modulus_of size → target < modulus_of size → holds conditions.GreaterOrEqual (flags_after size source target flags) ≡ int_le (signed_of size source) (signed_of size target)
unfolding compared subtracted shown difference difference_overflows fits signed_of
greater_or_equal Byte source target flags s t = grind (arith, ints, nat_tests)
greater_or_equal Word source target flags s t = grind (arith, ints, nat_tests)
greater_or_equal Long source target flags s t = grind (arith, ints, nat_tests)

greater : (size : Size) (source target : ℕ) (flags : Flags) → source < modulus_of size → target < modulus_of size → holds conditions.GreaterThan (flags_after size source target flags) ≡ int_lt (signed_of size source) (signed_of size target)
unfolding compared subtracted shown difference difference_overflows fits signed_of
greater Byte source target flags s t = grind (arith, ints, nat_tests)
greater Word source target flags s t = grind (arith, ints, nat_tests)
greater Long source target flags s t = grind (arith, ints, nat_tests)

less_or_equal : (size : Size) (source target : ℕ) (flags : Flags) → source < modulus_of size → target < modulus_of size → holds conditions.LessOrEqual (flags_after size source target flags) ≡ int_le (signed_of size target) (signed_of size source)
unfolding compared subtracted shown difference difference_overflows fits signed_of
less_or_equal Byte source target flags s t = grind (arith, ints, nat_tests)
less_or_equal Word source target flags s t = grind (arith, ints, nat_tests)
less_or_equal Long source target flags s t = grind (arith, ints, nat_tests)

carry_clear : (size : Size) (source target : ℕ) (flags : Flags) → holds conditions.CarryClear (flags_after size source target flags) ≡ nat_le source target
unfolding compared subtracted shown
carry_clear size source target flags = grind (arith, nat_tests)

overflow_set : (size : Size) (source target : ℕ) (flags : Flags) → holds conditions.OverflowSet (flags_after size source target flags) ≡ not (fits size (signed_of size target -ℤ signed_of size source))
unfolding compared subtracted shown difference_overflows
overflow_set size source target flags = grind (arith, ints)

minus : (size : Size) (source target : ℕ) (flags : Flags) → source < modulus_of size → target < modulus_of size → holds conditions.Minus (flags_after size source target flags) ≡ nat_le (half_of size) ((target + modulus_of size - source) % modulus_of size)
unfolding compared subtracted shown difference
minus Byte source target flags s t = grind (arith, ints, nat_tests)
minus Word source target flags s t = grind (arith, ints, nat_tests)
minus Long source target flags s t = grind (arith, ints, nat_tests)

pub compares : (size : Size) (source target : ℕ) (flags : Flags) → source < modulus_of size → target < modulus_of size → ConditionsCompare size source target flags
compares size source target flags s t = record {
  always = refl;
  never = refl;
  high = higher size source target flags s t;
  low_or_same = low_or_same size source target flags s t;
  carry_clear = carry_clear size source target flags;
  carry_set = carry_set size source target flags s t;
  not_equal = ap not (equal size source target flags s t);
  equal = equal size source target flags s t;
  overflow_clear = ap not (overflow_set size source target flags);
  overflow_set = overflow_set size source target flags;
  plus = ap not (minus size source target flags s t);
  minus = minus size source target flags s t;
  greater_or_equal = greater_or_equal size source target flags s t;
  less = less size source target flags s t;
  greater = greater size source target flags s t;
  less_or_equal = less_or_equal size source target flags s t;
}
