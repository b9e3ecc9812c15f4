-- Up to four bytes are filled up with others after them.
use Rattle.std.proofs.Common.{◌≡◌, ℕ, zero, suc, ◌<◌, ◌≤◌, List, [], ◌∷◌, ◌++◌, length, replicate, refl, arith}
use Rattle.asm_z80.specs.Coded80.{AreBytes}
use Rattle.asm_z80.specs.Checked.{padded}

pub four : (a b c d : ℕ) → a < 256 → b < 256 → c < 256 → d < 256 → AreBytes (a ∷ b ∷ c ∷ d ∷ [])
four a b c d ha hb hc hd zero = ha
four a b c d ha hb hc hd (suc zero) = hb
four a b c d ha hb hc hd (suc (suc zero)) = hc
four a b c d ha hb hc hd (suc (suc (suc zero))) = hd
four a b c d ha hb hc hd (suc (suc (suc (suc i)))) = omega arith

none : 0 < 256
none = omega arith

pub padded_bytes : (bytes : List ℕ) → AreBytes bytes → AreBytes (padded bytes)
padded_bytes [] h = four 0 0 0 0 none none none none
padded_bytes (a ∷ []) h = four a 0 0 0 (h 0) none none none
padded_bytes (a ∷ b ∷ []) h = four a b 0 0 (h 0) (h 1) none none
padded_bytes (a ∷ b ∷ c ∷ []) h = four a b c 0 (h 0) (h 1) (h 2) none
padded_bytes (a ∷ b ∷ c ∷ d ∷ more) h = four a b c d (h 0) (h 1) (h 2) (h 3)

zeros : (n : ℕ) → AreBytes (replicate n 0)
zeros zero i = omega arith
zeros (suc n) zero = omega arith
zeros (suc n) (suc i) = zeros n i

-- bytes that others are filled up with
pub record Filled (bytes : List ℕ) : Type 0 where
  pub more : List ℕ
  pub bytes_too : AreBytes more
  pub up : padded bytes ≡ bytes ++ more

pub filled_up : (bytes : List ℕ) → length bytes ≤ 4 → Filled bytes
filled_up [] few = record { more = replicate 4 0; bytes_too = zeros 4; up = refl }
filled_up (a ∷ []) few = record { more = replicate 3 0; bytes_too = zeros 3; up = refl }
filled_up (a ∷ b ∷ []) few = record { more = replicate 2 0; bytes_too = zeros 2; up = refl }
filled_up (a ∷ b ∷ c ∷ []) few = record { more = replicate 1 0; bytes_too = zeros 1; up = refl }
filled_up (a ∷ b ∷ c ∷ d ∷ []) few = record { more = replicate 0 0; bytes_too = zeros 0; up = refl }
filled_up (a ∷ b ∷ c ∷ d ∷ e ∷ more) few = absurd (omega arith)
