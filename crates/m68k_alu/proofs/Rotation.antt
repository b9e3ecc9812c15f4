-- A rotated number stays within its width.
use Rattle.std.proofs.Common.{ℕ, ◌≡◌, ◌+◌, ◌-◌, ◌*◌, ◌/◌, ◌%◌, ◌^◌, ◌<◌, ◌≤◌, ap, sym, ◌∙◌, arith}
use Rattle.std.proofs.lemmas.Nat.{pow-add}
use Rattle.std.proofs.Math.Nat.{div-lt_iff_lt-mul, mul-le-mul_right, mul_comm}
use Rattle.std.proofs.Math.Pow.{pow_mono}

halves : (width count : ℕ) → count ≤ width → 2 ^ (width - count) * 2 ^ count ≡ 2 ^ width
halves width count h =
    let whole : width - count + count ≡ width = omega arith in
    sym (pow-add 2 (width - count) count) ∙ ap (λ k. 2 ^ k) whole

swapped_below : (p q n : ℕ) → 0 < p → n < p * q → n % p * q + n / p < p * q
swapped_below p q n some h =
    let other : n < q * p = grind (arith, mul_comm) in
    let upper : n / p < q = (div-lt_iff_lt-mul some).1 other in
    let lower : n % p + 1 ≤ p = omega arith in
    let most : (n % p + 1) * q ≤ p * q = mul-le-mul_right q lower in
    grind arith

some_power : (k : ℕ) → 0 < 2 ^ k
some_power k = pow_mono {i = 0} {j = k} (omega arith)

pub rotated_below : (width count n : ℕ) → count ≤ width → n < 2 ^ width
    → n % 2 ^ (width - count) * 2 ^ count + n / 2 ^ (width - count) < 2 ^ width
rotated_below width count n h k =
    let e = halves width count h in
    let b : n < 2 ^ (width - count) * 2 ^ count = rw e k in
    rw (← e) (swapped_below (2 ^ (width - count)) (2 ^ count) n (some_power (width - count)) b)

pub power_fits : (k : ℕ) → k ≤ 33 → 2 ^ k ≤ 0x2_0000_0000
power_fits k h = pow_mono {i = k} {j = 33} h
