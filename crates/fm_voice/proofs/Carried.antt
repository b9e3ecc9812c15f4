-- Sums of three and four outputs that are heard.
use Rattle.std.proofs.Common.{◌≡◌, ℕ, ◌<◌, ℤ, ◌+ℤ◌, ◌⊎◌, inl, inr, arith}
use Rattle.std.proofs.lemmas.Int.{ints}
use Rattle.fm_voice.specs.Channel.{carried}

pub carried-three : (n : ℕ) → 4 < n → n < 7 → (x y z w : ℤ) → (y +ℤ z) +ℤ w ≡ carried n x y z w
unfolding carried
carried-three n h k x y z w =
    let which : (n ≡ 5) ⊎ (n ≡ 6) = grind (arith, h, k) in
    elim which [ inl e ↦ (rw e (omega (arith, ints))) | inr e ↦ (rw e (omega (arith, ints))) ]

pub carried-four : (n : ℕ) → 6 < n → n < 8 → (x y z w : ℤ) → ((x +ℤ y) +ℤ z) +ℤ w ≡ carried n x y z w
unfolding carried
carried-four n h k x y z w = (let e : n ≡ 7 = omega (arith, h, k) in rw e (omega (arith, ints)))
