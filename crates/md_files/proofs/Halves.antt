-- Half of a signed number, rounded down.
use Rattle.std.proofs.Common.{◌≡◌, refl, ℤ, pos, negsuc}
use Rattle.std.specs.Int.{int_div_euclid}
use Rattle.md_files.specs.Pair.{half}

pub int_div_euclid-two : (z : ℤ) → int_div_euclid z (pos 2) ≡ half z
int_div_euclid-two (pos n) = refl
int_div_euclid-two (negsuc n) = refl
