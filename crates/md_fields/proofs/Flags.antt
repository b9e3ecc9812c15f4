-- A flag is kept as 0 or 1, and read as whether its number is 1.
use Rattle.std.proofs.Common.{◌≡◌, ℕ, zero, suc, ◌<◌, ◌≤◌, ◌^◌, Bool, true, false, eqb, leb, refl, arith}
use Rattle.md_word.specs.Coding.{flag_number}

-- a number of at most 1 is that of the flag that is read from it
pub flag_back : (n : ℕ) → n ≤ 1 → flag_number (eqb n 1) ≡ n
flag_back zero le = refl
flag_back (suc zero) le = refl
flag_back (suc (suc n)) le = absurd (omega (arith, le))

-- the number of a flag is read as the flag
pub flag_again : (flag : Bool) → eqb (flag_number flag) 1 ≡ flag
flag_again true = refl
flag_again false = refl

-- the number of a flag fits a byte
pub flag_byte : (flag : Bool) → flag_number flag < 2 ^ 8
flag_byte true = omega arith
flag_byte false = omega arith

-- the number of a flag is at most 1
pub flag_small : (flag : Bool) → leb (flag_number flag) 1 ≡ true
flag_small true = refl
flag_small false = refl
