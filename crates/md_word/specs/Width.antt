-- The sizes of the 68000's operands: widths, and values in two's complement.
-- M68000 Programmer's Reference Manual, section 1.3.
use Rattle.std.specs.Prelude.{ℕ, ℤ, pos, negsuc, ◌+ℤ◌, ◌-ℤ◌, ◌-◌, ◌%◌, ◌^◌, Bool, not, ◌&&◌, nat_lt, int_le, int_lt, if◌then◌else◌}
use Rattle.md_word.specs.Coding.{flag_number}
use Rattle.md_word.specs.declared.size.Size.{Size}
use Rattle.md_word.specs.declared.size.Size.TheVariants.{Byte, Word, Long}

-- the width in bits
abbrev pub width_of : Size → ℕ
width_of Byte = 8
width_of Word = 16
width_of Long = 32

-- how many values there are
abbrev pub modulus_of : Size → ℕ
modulus_of Byte = 0x100
modulus_of Word = 0x1_0000
modulus_of Long = 0x1_0000_0000

-- the least value with its sign bit set
abbrev pub half_of : Size → ℕ
half_of Byte = 0x80
half_of Word = 0x8000
half_of Long = 0x8000_0000

-- the value in two's complement
unfoldable pub signed_of : Size → ℕ → ℤ
signed_of size n = if nat_lt n (half_of size) then pos n else (pos n -ℤ pos (modulus_of size))

-- the whole number modulo m, of a signed number too
abbrev pub word_of : ℕ → ℤ → ℕ
word_of m (pos n) = n % m
word_of m (negsuc n) = m - 1 - n % m

-- the sign extended to 32 bits
unfoldable pub extended : Size → ℕ → ℕ
extended size n = word_of (2 ^ 32) (signed_of size (n % modulus_of size))

-- whether a signed number is within the size's range in two's complement
unfoldable pub fits : Size → ℤ → Bool
fits size z = int_le (pos 0 -ℤ pos (half_of size)) z && int_lt z (pos (half_of size))

-- whether a + b + carry, in two's complement, passes the size's range
unfoldable pub sum_overflows : Size → ℕ → ℕ → Bool → Bool
sum_overflows size a b carry = not (fits size (signed_of size a +ℤ signed_of size b +ℤ pos (flag_number carry)))

-- whether a − b − borrow, in two's complement, passes the size's range
unfoldable pub difference_overflows : Size → ℕ → ℕ → Bool → Bool
difference_overflows size a b borrow = not (fits size (signed_of size a -ℤ signed_of size b -ℤ pos (flag_number borrow)))
