-- An attenuation of 13 halves or more leaves nothing of a wave.
use Rattle.std.proofs.Common.{◌≡◌, ℕ, ◌+◌, ◌-◌, ◌*◌, ◌/◌, ◌%◌, ◌^◌, ◌<◌, ◌≤◌, ap, sym, subst, ◌∙◌, arith}
use Rattle.std.proofs.lemmas.Nat.{shr-shr, shr_le}
use Rattle.fm_voice.specs.Wave.{magnitude, power, sine}
use Rattle.fm_voice.proofs.Looked.{power_value, powers_are_small, sine_value, sines_are_small}

-- a number of 24 bits, shifted by 24 and more
shifted : (n y : ℕ) → n < 2 ^ 24 → n / 2 ^ (24 + y) ≡ 0
shifted n y h = let none : n / 2 ^ 24 ≡ 0 = omega arith in let low = shr_le (n / 2 ^ 24) y in sym (shr-shr n 24 y) ∙ (omega arith)

silent : (s p x : ℕ) → s ≤ 8191 → p ≤ 2042 → 13 ≤ x → s * p / 2 ^ (11 + x) ≡ 0
silent s p x h k wide =
    let small : s * p ≤ 16726022 = grind (arith, h, k) in
    ap (λ n. s * p / 2 ^ n) (omega arith) ∙ shifted (s * p) (x - 13) (omega arith)

pub silenced : (index attenuation : ℕ) → 832 ≤ attenuation → magnitude index attenuation ≡ 0
unfolding magnitude
silenced index attenuation weak =
    let low = sines_are_small (index % 512) in
    let some = powers_are_small (attenuation % 64) in
    silent (sine (index % 512)) (power (attenuation % 64)) (attenuation / 64)
    (subst (λ n. n ≤ 8191) (sine_value (index % 512) (omega arith)) low)
    (subst (λ n. n ≤ 2042) (power_value (attenuation % 64) (omega arith)) some)
    (omega arith)
