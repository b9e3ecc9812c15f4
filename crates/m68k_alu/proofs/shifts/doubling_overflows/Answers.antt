use Rattle.std.proofs.Common.{◌≡◌, ◌-◌, ◌<◌, ◌≤◌, nat_le, nat_lt, ap, arith}
use Rattle.md_word.specs.Width.{half_of, modulus_of}
use Rattle.m68k_alu.proofs.Signs.{negative_sign, positive_sign, wide_shift}
use Rattle.m68k_alu.proofs.shifts.doubling_overflows.Goals as goal

pub returns-then-target-half-clause-sign : goal.returns-then-target-half-clause-sign
returns-then-target-half-clause-sign c =
    let half : c.from-half.result ≡ half_of c.args.size = cc in
    let number : c.from.result ≡ c.args.target = cc in
    let low : c.args.target < half_of c.args.size = omega arith in
    let wide = wide_shift c.args.target c.args.count (omega arith) (omega arith) in
    positive_sign c.args.size c.args.count c.args.target _ low (rw (half, number) (ap (λ n. nat_le (half_of c.args.size) n) wide))

pub returns-else-target-half-clause-sign : goal.returns-else-target-half-clause-sign
returns-else-target-half-clause-sign c =
    let half : c.from-half.result ≡ half_of c.args.size = cc in
    let number : c.from-else-target-half-2.result ≡ modulus_of c.args.size - c.args.target = cc in
    let high : half_of c.args.size ≤ c.args.target = omega arith in
    let below : c.args.target < modulus_of c.args.size = omega arith in
    let wide = wide_shift (modulus_of c.args.size - c.args.target) c.args.count (omega arith) (omega arith) in
    negative_sign c.args.size c.args.count c.args.target _ high below (rw (half, number) (ap (λ n. nat_lt (half_of c.args.size) n) wide))
