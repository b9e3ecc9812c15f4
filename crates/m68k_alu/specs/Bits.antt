-- Single bits, parts of words, and products.
-- M68000 Programmer's Reference Manual, section 4: BCHG, BCLR, BSET, BTST, EXT, SWAP, TAS, MULS,
-- MULU.
use Rattle.std.specs.Prelude.{ℕ, ◌+◌, ◌*◌, ◌/◌, ◌%◌, ◌^◌, ◌*ℤ◌, not, ◌==◌}
use Rattle.md_word.specs.Width.{modulus_of, signed_of, width_of, word_of}
use Rattle.md_word.specs.declared.flags.Flags.{Flags}
use Rattle.md_word.specs.declared.size.Size.{Size}
use Rattle.md_word.specs.declared.size.Size.TheVariants.{Byte, Word, Long}
use Rattle.m68k_alu.specs.declared.out.Out.{Out}
use Rattle.m68k_alu.specs.Results.{moved}

-- the bit that a number names, as a power of 2: numbers go round at the width
unfoldable pub bit_named : Size → ℕ → ℕ
bit_named size number = 2 ^ (number % width_of size)

-- Z says whether the bit was 0; nothing else changes
unfoldable pub tested : ℕ → ℕ → Flags → ℕ → Out
tested mask target flags value = record {
  value = value;
  flags = record flags { z = not (target / mask % 2 == 1) };
}

-- the size that EXT extends from
abbrev pub narrower : Size → Size
narrower Byte = Byte
narrower Word = Byte
narrower Long = Word

-- the narrower number with its sign extended
unfoldable pub widened : Size → ℕ → ℕ
widened size value =
    word_of (modulus_of size) (signed_of (narrower size) (value % modulus_of (narrower size)))

-- the halves of a long exchanged
unfoldable pub swapped : ℕ → ℕ
swapped value = value % 0x1_0000 * 0x1_0000 + value / 0x1_0000

-- flags of a byte; its sign bit set
unfoldable pub set_tested : ℕ → Flags → Out
set_tested target flags = record (moved Byte target flags) { value = target % 0x80 + 0x80 }

-- the products of the low words, as longs
unfoldable pub product : ℕ → ℕ → ℕ
product source target = (source % 0x1_0000) * (target % 0x1_0000)

-- the same of numbers in two's complement
unfoldable pub signed_product : ℕ → ℕ → ℕ
signed_product source target =
    word_of (2 ^ 32) (signed_of Word (target % 0x1_0000) *ℤ signed_of Word (source % 0x1_0000))
