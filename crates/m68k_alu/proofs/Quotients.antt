-- There is one quotient and one remainder.
use Rattle.std.proofs.Common.{Bool, true, false, ◌==◌, if◌then◌else◌, ◌≡◌, ℕ, zero, suc, ℤ, pos, negsuc, ◌*◌, ◌<◌, ◌+ℤ◌, ◌-ℤ◌, ◌*ℤ◌, int_div, int_rem, unsigned_abs, refl, ap, sym, ◌∙◌, arith}
use Rattle.std.proofs.lemmas.Int.{ints, quot-rem, rem_below, unsigned_abs-mul}
use Rattle.std.proofs.lemmas.Bool.Decides.{nat_tests}
use Rattle.std.proofs.Math.IntN.{pred_ℤ, pred_ℤ-*ℤ, suc_ℤ, suc_ℤ-*ℤ, zero-*ℤ}
use Rattle.md_word.specs.Width.{signed_of}
use Rattle.m68k_alu.specs.declared.quotient.Quotient.{Quotient}
use Rattle.m68k_alu.specs.declared.quotient.Quotient.TheVariants.{Overflow, Value, Zero}
use Rattle.m68k_alu.specs.Division.{Divides, HasSignOf, IsDivision, divided, dividend_of, divisor_of, fits_word, packed}

remainder_sign : (a d : ℤ) → HasSignOf a (int_rem a d)
remainder_sign (pos a) d = omega (arith, ints)
remainder_sign (negsuc a) d = omega (arith, ints)

pub truncated : (a d : ℤ) → 0 < unsigned_abs d → IsDivision a d (int_div a d) (int_rem a d)
truncated a d h = record { whole = quot-rem a d; smaller = rem_below a d h; sign = remainder_sign a d }

-- two remainders of one sign are nearer to each other than the divisor's size
near : (a r s : ℤ) (n : ℕ) → HasSignOf a r → HasSignOf a s → unsigned_abs r < n → unsigned_abs s < n → unsigned_abs (s -ℤ r) < n
near (pos a) (pos r) (pos s) n p q h k = omega (arith, ints)
near (pos a) (pos r) (negsuc s) n p q h k = absurd (omega (arith, ints))
near (pos a) (negsuc r) s n p q h k = absurd (omega (arith, ints))
near (negsuc a) (negsuc r) (negsuc s) n p q h k = omega (arith, ints)
near (negsuc a) (negsuc r) (pos s) n p q h k = omega (arith, ints)
near (negsuc a) (pos r) (negsuc s) n p q h k = omega (arith, ints)
near (negsuc a) (pos r) (pos s) n p q h k = omega (arith, ints)

-- a multiple below the number itself is 0
no_multiple : (k n : ℕ) → k * n < n → k ≡ 0
no_multiple zero n h = refl
no_multiple (suc k) n h = absurd (omega arith)

same_number : (p q : ℤ) → unsigned_abs (p -ℤ q) ≡ 0 → p ≡ q
same_number (pos p) (pos q) h = omega (arith, ints)
same_number (pos p) (negsuc q) h = absurd (omega (arith, ints))
same_number (negsuc p) (pos q) h = absurd (omega (arith, ints))
same_number (negsuc p) (negsuc q) h = omega (arith, ints)

suc_is : (k : ℤ) → suc_ℤ k ≡ k +ℤ pos 1
suc_is (pos n) = omega (arith, ints)
suc_is (negsuc zero) = refl
suc_is (negsuc (suc n)) = omega (arith, ints)

pred_is : (k : ℤ) → pred_ℤ k ≡ k -ℤ pos 1
pred_is (pos zero) = refl
pred_is (pos (suc n)) = omega (arith, ints)
pred_is (negsuc n) = omega (arith, ints)

one_more : (k d : ℤ) → (k +ℤ pos 1) *ℤ d ≡ k *ℤ d +ℤ d
one_more k d = rw (← suc_is k) (suc_ℤ-*ℤ k d)

one_less : (k d : ℤ) → (k -ℤ pos 1) *ℤ d ≡ k *ℤ d -ℤ d
one_less k d = rw (← pred_is k) (pred_ℤ-*ℤ k d)

sub-mul : (p q d : ℤ) → (p -ℤ q) *ℤ d ≡ p *ℤ d -ℤ q *ℤ d
sub-mul p (pos zero) d =
    let same : p -ℤ pos zero ≡ p = omega (arith, ints) in
    rw same (rw (zero-*ℤ d) (omega (arith, ints)))
sub-mul p (pos (suc n)) d =
    let less : p -ℤ pos (suc n) ≡ (p -ℤ pos n) -ℤ pos 1 = omega (arith, ints) in
    let more : pos (suc n) *ℤ d ≡ pos n *ℤ d +ℤ d = suc_ℤ-*ℤ (pos n) d in
    rw (less, more, one_less (p -ℤ pos n) d, sub-mul p (pos n) d) (omega (arith, ints))
sub-mul p (negsuc zero) d =
    let more : p -ℤ negsuc zero ≡ p +ℤ pos 1 = omega (arith, ints) in
    let less : negsuc zero *ℤ d ≡ pos zero *ℤ d -ℤ d = pred_ℤ-*ℤ (pos zero) d in
    rw (more, less, one_more p d, zero-*ℤ d) (omega (arith, ints))
sub-mul p (negsuc (suc n)) d =
    let more : p -ℤ negsuc (suc n) ≡ (p -ℤ negsuc n) +ℤ pos 1 = omega (arith, ints) in
    let less : negsuc (suc n) *ℤ d ≡ negsuc n *ℤ d -ℤ d = pred_ℤ-*ℤ (negsuc n) d in
    rw (more, less, one_more (p -ℤ negsuc n) d, sub-mul p (negsuc n) d) (omega (arith, ints))

quotient_is_one : (a d p r q s : ℤ) → IsDivision a d p r → IsDivision a d q s → p ≡ q
quotient_is_one a d p r q s first second =
    let apart : (p -ℤ q) *ℤ d ≡ s -ℤ r = rw (sub-mul p q d) (omega (arith, ints)) in
    let product : unsigned_abs (p -ℤ q) * unsigned_abs d ≡ unsigned_abs (s -ℤ r) = sym (unsigned_abs-mul (p -ℤ q) d) ∙ ap unsigned_abs apart in
    let less : unsigned_abs (s -ℤ r) < unsigned_abs d = near a r s (unsigned_abs d) first.sign second.sign first.smaller second.smaller in
    same_number p q (no_multiple (unsigned_abs (p -ℤ q)) (unsigned_abs d) (rw product less))

divisor_some : (signed : Bool) (source : ℕ) → source < 0x1_0000 → (source == 0) ≡ false → 0 < unsigned_abs (divisor_of signed source)
unfolding signed_of
divisor_some true source h e = grind (arith, ints, nat_tests)
divisor_some false source h e = grind (arith, nat_tests)

answered : (signed : Bool) (source target : ℕ) → source < 0x1_0000 → (none : Bool) → (source == 0) ≡ none
    → (fits : Bool) → fits_word signed (int_div (dividend_of signed target) (divisor_of signed source)) ≡ fits
    → Divides signed source target (
    if none then Zero
    else (
    if fits then Value (packed (int_div (dividend_of signed target) (divisor_of signed source)) (int_rem (dividend_of signed target) (divisor_of signed source)))
    else Overflow
    )
    )
answered signed source target h true e fits f = grind (arith, nat_tests)
answered signed source target h false e true f =
    let a : ℤ = dividend_of signed target in
    let d : ℤ = divisor_of signed source in
    (int_div a d, int_rem a d, truncated a d (divisor_some signed source h e), f, refl)
answered signed source target h false e false f = λ q r holds.
    let a : ℤ = dividend_of signed target in
    let d : ℤ = divisor_of signed source in
    rw (quotient_is_one a d q r (int_div a d) (int_rem a d) holds (truncated a d (divisor_some signed source h e))) f

pub divided_holds : (signed : Bool) (source target : ℕ) → source < 0x1_0000 → Divides signed source target (divided signed source target)
unfolding divided
divided_holds signed source target h =
    answered signed source target h (source == 0) refl (fits_word signed (int_div (dividend_of signed target) (divisor_of signed source))) refl

pub quotient_divides : (signed : Bool) (source target : ℕ) (answer : Quotient) → source < 0x1_0000 → answer ≡ divided signed source target → Divides signed source target answer
quotient_divides signed source target answer h e = rw e (divided_holds signed source target h)
