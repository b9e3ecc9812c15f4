-- A place on a plane's side as bits of a number.
use Rattle.std.proofs.Common.{◌≡◌, ℕ, ◌*◌, ◌-◌, ◌%◌, ◌⊎◌, inl, inr, arith}
use Rattle.std.specs.Prelude.{bit_and}
use Rattle.std.proofs.lemmas.Nat.{and_mask}
use Rattle.vdp_planes.specs.Planes.{cells_of}

-- a width is one of three
pub cells_three : (bits : ℕ) → (cells_of bits ≡ 32) ⊎ (cells_of bits ≡ 64) ⊎ (cells_of bits ≡ 128)
unfolding cells_of
cells_three bits = grind arith

by_width : (n w : ℕ) → (w ≡ 32) ⊎ (w ≡ 64) ⊎ (w ≡ 128) → bit_and n (w * 8 - 1) ≡ n % (w * 8)
by_width n w (inl e) = rw e (and_mask n 8)
by_width n w (inr (inl e)) = rw e (and_mask n 9)
by_width n w (inr (inr e)) = rw e (and_mask n 10)

pub masked : (n bits last : ℕ) → last ≡ cells_of bits * 8 - 1 → bit_and n last ≡ n % (cells_of bits * 8)
masked n bits last e = rw e (by_width n (cells_of bits) (cells_three bits))

eighth_by : (n w : ℕ) → (w ≡ 32) ⊎ (w ≡ 64) ⊎ (w ≡ 128) → n % (w * 8) % 8 ≡ n % 8
eighth_by n w (inl e) = rw e (omega arith)
eighth_by n w (inr (inl e)) = rw e (omega arith)
eighth_by n w (inr (inr e)) = rw e (omega arith)

-- a place on a side is in its cell where the number is among eight
pub eighth : (n bits place : ℕ) → place ≡ n % (cells_of bits * 8) → place % 8 ≡ n % 8
eighth n bits place e = rw e (eighth_by n (cells_of bits) (cells_three bits))
