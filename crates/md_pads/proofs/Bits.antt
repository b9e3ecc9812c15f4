-- One bit of a number, as code tests it by a mask and as the definitions name it by its place.
use Rattle.std.proofs.Common.{◌≡◌, ℕ, ◌*◌, ◌^◌, ◌<◌, not, eqb, inl, inr, arith}
use Rattle.std.specs.Int.{bit_at}
use Rattle.std.specs.Int.RustNames.{bit_and}
use Rattle.std.proofs.lemmas.Bool.{cases_eq, eq-eqb, ne_eqb}
use Rattle.std.proofs.lemmas.Nat.{pow_pos}
use Rattle.std.proofs.lemmas.Nat.Bits.{and_pow, bit_at-lt}
use Rattle.md_pads.specs.Pad.{is_set}

-- the mask of a bit is there whole exactly where the bit is 1
pub has_mask : (n place : ℕ) → eqb (bit_and n (2 ^ place)) (2 ^ place) ≡ is_set n place
has_mask n place =
    let masked = and_pow n place in
    let small = bit_at-lt n place in
    let above : 0 < 2 ^ place = pow_pos place in
    elim (cases_eq (bit_at n place) 1) [
      | inl one ↦ rw (masked, one) (eq-eqb (1 * 2 ^ place) (2 ^ place) (omega arith))
      | inr other ↦ let none : bit_at n place ≡ 0 = omega arith in rw (masked, none) (ne_eqb (0 * 2 ^ place) (2 ^ place) (λ e. omega arith))
    ]

-- nothing of the mask is there exactly where the bit is 0
pub lacks_mask : (n place : ℕ) → eqb (bit_and n (2 ^ place)) 0 ≡ not (is_set n place)
lacks_mask n place =
    let masked = and_pow n place in
    let small = bit_at-lt n place in
    let above : 0 < 2 ^ place = pow_pos place in
    elim (cases_eq (bit_at n place) 1) [
      | inl one ↦ rw (masked, one) (ne_eqb (1 * 2 ^ place) 0 (λ e. omega arith))
      | inr other ↦ let none : bit_at n place ≡ 0 = omega arith in rw (masked, none) (eq-eqb (0 * 2 ^ place) 0 (omega arith))
    ]
