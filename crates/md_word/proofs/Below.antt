-- How large a flag and what the bitwise operations give can be.
use Rattle.std.proofs.Common.{ℕ, ◌<◌, ◌≤◌, Bool, true, false, bit_and, bit_or, bit_xor, arith}
use Rattle.std.specs.Int.Bits.{and_lt, or_lt, xor_lt}
use Rattle.md_word.specs.Coding.{flag_number}
use Rattle.md_word.specs.Width.{modulus_of}
use Rattle.md_word.specs.declared.size.Size.{Size}
use Rattle.md_word.specs.declared.size.Size.TheVariants.{Byte, Word, Long}

pub and_below : (size : Size) (a b : ℕ) → a < modulus_of size → b < modulus_of size → bit_and a b < modulus_of size
and_below Byte a b h k = and_lt 8 a b h k
and_below Word a b h k = and_lt 16 a b h k
and_below Long a b h k = and_lt 32 a b h k

pub or_below : (size : Size) (a b : ℕ) → a < modulus_of size → b < modulus_of size → bit_or a b < modulus_of size
or_below Byte a b h k = or_lt 8 a b h k
or_below Word a b h k = or_lt 16 a b h k
or_below Long a b h k = or_lt 32 a b h k

pub xor_below : (size : Size) (a b : ℕ) → a < modulus_of size → b < modulus_of size → bit_xor a b < modulus_of size
xor_below Byte a b h k = xor_lt 8 a b h k
xor_below Word a b h k = xor_lt 16 a b h k
xor_below Long a b h k = xor_lt 32 a b h k

pub bit_below : (flag : Bool) → flag_number flag ≤ 1
bit_below true = omega arith
bit_below false = omega arith
