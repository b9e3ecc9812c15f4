-- An address with nothing added is itself.
use Rattle.std.proofs.Common.{◌≡◌, ℕ, ◌≤◌, pos, arith}
use Rattle.std.proofs.lemmas.Int.{ints}
use Rattle.m68k_ea.specs.Addresses.{address_sum}

pub base_alone : (base : ℕ) → base ≤ 0xffff_ffff → address_sum (pos base) (pos 0) (pos 0) ≡ base
unfolding address_sum
base_alone base h = grind (arith, ints)
