-- On bytes of two decimal digits the rule of ABCD, SBCD and NBCD is decimal arithmetic.
use Rattle.std.proofs.Common.{◌≡◌, ℕ, ℤ, pos, negsuc, ◌+◌, ◌-◌, ◌*◌, ◌%◌, ◌<◌, ◌≤◌, ◌+ℤ◌, ◌-ℤ◌, Bool, true, false, nat_lt, int_lt, if◌then◌else◌, refl, arith}
use Rattle.std.proofs.lemmas.Bool.Decides.{nat_tests}
use Rattle.std.proofs.lemmas.Int.{ints}
use Rattle.md_word.proofs.Below.{bit_below}
use Rattle.md_word.specs.Coding.{flag_number}
use Rattle.md_word.specs.Width.{word_of}
use Rattle.md_word.specs.declared.flags.Flags.{Flags}
use Rattle.m68k_alu.specs.declared.out.Out.{Out}
use Rattle.m68k_alu.specs.Decimal.{AddsDecimals, IsDecimal, SubtractsDecimals, decimal, decimal_added, decimal_difference, decimal_subtracted, decimal_value, digit_difference, digit_sum, low_difference, low_sum}

-- what a test of two numbers says
abbrev Below : Bool → ℕ → ℕ → Type 0
Below true m n = m < n
Below false m n = n ≤ m

below_by : (m n : ℕ) (less : Bool) → nat_lt m n ≡ less → Below less m n
below_by m n true e = grind (arith, nat_tests)
below_by m n false e = grind (arith, nat_tests)

-- by whether the lower digits' sum passes 9, and the whole 9Fh
sum_by : (a b x t s : ℕ) (low high : Bool) → x ≤ 1 → IsDecimal a → IsDecimal b
    → s ≡ a % 16 + b % 16 + x → Below low 9 s
    → t ≡ a - a % 16 + (b - b % 16) + (if low then s + 6 else s) → Below high 0x9f t
    → IsDecimal ((if high then t + 0x60 else t) % 0x100)
    × (decimal_value ((if high then t + 0x60 else t) % 0x100) + 100 * flag_number high ≡ decimal_value a + decimal_value b + x)
sum_by a b x t s false false h p q d l e u = (record { upper = omega arith; lower = omega arith }, omega arith)
sum_by a b x t s true false h p q d l e u = (record { upper = omega arith; lower = omega arith }, omega arith)
sum_by a b x t s false true h p q d l e u = (record { upper = omega arith; lower = omega arith }, omega arith)
sum_by a b x t s true true h p q d l e u = (record { upper = omega arith; lower = omega arith }, omega arith)

pub adds : (source target : ℕ) (flags : Flags) (out : Out) → out ≡ decimal_added source target flags
    → IsDecimal source → IsDecimal target → AddsDecimals source target flags.x out
unfolding decimal_added decimal digit_sum low_sum
adds source target flags out e p q =
    let s : ℕ = target % 16 + source % 16 + flag_number flags.x in
    let t : ℕ = digit_sum source target flags.x in
    let both = sum_by target source (flag_number flags.x) t s (nat_lt 9 s) (nat_lt 0x9f t) (bit_below flags.x) q p refl (below_by 9 s _ refl) refl (below_by 0x9f t _ refl) in
    rw e (record { digits = both.0; sum = both.1 })

not_below : (s : ℕ) → nat_lt s 0 ≡ false
not_below s = grind (arith, nat_tests)

-- a byte of so much less, 6 less where the lower digits borrow, 160 more where the whole does
difference_is : (a b x v : ℕ) (low high : Bool) → x ≤ 1 → IsDecimal a → IsDecimal b → Below low (a % 16) (b % 16 + x) → Below high a (b + x)
    → v + b + x + (if low then 6 else 0) ≡ a + (if high then 160 else 0)
    → IsDecimal v × (decimal_value v + decimal_value b + x ≡ decimal_value a + 100 * flag_number high)
difference_is a b x v false false h p q l u e = (record { upper = omega arith; lower = omega arith }, omega arith)
difference_is a b x v true false h p q l u e = (record { upper = omega arith; lower = omega arith }, omega arith)
difference_is a b x v false true h p q l u e = (record { upper = omega arith; lower = omega arith }, omega arith)
difference_is a b x v true true h p q l u e = (record { upper = omega arith; lower = omega arith }, omega arith)

-- by whether the lower digits' difference is below 0, and the whole
difference_by : (a b x : ℕ) (s z : ℤ) (high : Bool) → x ≤ 1 → IsDecimal a → IsDecimal b
    → s ≡ pos (a % 16) -ℤ pos (b % 16) -ℤ pos x → Below high a (b + x)
    → z ≡ (
    if high then pos (a - a % 16) -ℤ pos (b - b % 16) +ℤ (if int_lt s (pos 0) then s -ℤ pos 6 else s) -ℤ pos 0x60
    else pos (a - a % 16) -ℤ pos (b - b % 16) +ℤ (if int_lt s (pos 0) then s -ℤ pos 6 else s)
    )
    → IsDecimal (word_of 0x100 z) × (decimal_value (word_of 0x100 z) + decimal_value b + x ≡ decimal_value a + 100 * flag_number high)
difference_by a b x (pos s) (pos z) true h p q d u e = absurd (let f = rw (not_below s) at e in omega (arith, ints))
difference_by a b x (pos s) (negsuc z) true h p q d u e = difference_is a b x _ false true h p q (omega (arith, ints)) u (let f = rw (not_below s) at e in omega (arith, ints))
difference_by a b x (negsuc s) (pos z) true h p q d u e = absurd (omega (arith, ints))
difference_by a b x (negsuc s) (negsuc z) true h p q d u e = difference_is a b x _ true true h p q (omega (arith, ints)) u (omega (arith, ints))
difference_by a b x (pos s) (pos z) false h p q d u e = difference_is a b x _ false false h p q (omega (arith, ints)) u (let f = rw (not_below s) at e in omega (arith, ints))
difference_by a b x (pos s) (negsuc z) false h p q d u e = absurd (let f = rw (not_below s) at e in omega (arith, ints))
difference_by a b x (negsuc s) (pos z) false h p q d u e = difference_is a b x _ true false h p q (omega (arith, ints)) u (omega (arith, ints))
difference_by a b x (negsuc s) (negsuc z) false h p q d u e = absurd (omega (arith, ints))

pub subtracts : (source target : ℕ) (flags : Flags) (out : Out) → out ≡ decimal_subtracted source target flags
    → IsDecimal source → IsDecimal target → SubtractsDecimals source target flags.x out
unfolding decimal_subtracted decimal decimal_difference digit_difference low_difference
subtracts source target flags out e p q =
    let s : ℤ = pos (target % 16) -ℤ pos (source % 16) -ℤ pos (flag_number flags.x) in
    let t : ℤ = digit_difference source target flags.x in
    let both = difference_by target source (flag_number flags.x) s (if nat_lt target (source + flag_number flags.x) then t -ℤ pos 0x60 else t) (nat_lt target (source + flag_number flags.x)) (bit_below flags.x) q p refl (below_by target (source + flag_number flags.x) _ refl) refl in
    rw e (record { digits = both.0; difference = both.1 })

pub negates : (target : ℕ) (flags : Flags) (out : Out) → out ≡ decimal_subtracted target 0 flags
    → IsDecimal target → SubtractsDecimals target 0 flags.x out
negates target flags out e p = subtracts target 0 flags out e p (record { upper = omega arith; lower = omega arith })
