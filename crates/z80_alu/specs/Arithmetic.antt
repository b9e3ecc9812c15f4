-- Sums and differences of bytes with their flags.
-- Zilog UM0080, "8-Bit Arithmetic Group": carry and borrow are of the whole numbers, half carry of
-- their low digits, overflow of the numbers in two's complement.
use Rattle.std.specs.Prelude.{ℕ, pos, ◌+◌, ◌%◌, ◌-ℤ◌, Bool, true, false, ◌==◌, nat_lt, nat_le}
use Rattle.md_word.specs.Coding.{flag_number}
use Rattle.md_word.specs.Width.{difference_overflows, sum_overflows, word_of}
use Rattle.md_word.specs.declared.size.Size.TheVariants.{Byte}
use Rattle.z80_alu.specs.declared.flags80.Flags80.{Flags80}
use Rattle.z80_alu.specs.declared.out80.Out80.{Out80}
use Rattle.z80_alu.specs.Flags.{shown}

-- a + b + carry; H where the low digits' sum passes a digit, C where the sum passes a byte
unfoldable pub added : ℕ → ℕ → Bool → Out80
added a b carry =
    shown ((a + b + flag_number carry) % 0x100) (nat_le 16 (a % 16 + b % 16 + flag_number carry)) (sum_overflows Byte a b carry) false (nat_le 0x100 (a + b + flag_number carry))

-- a − b − borrow; H where the low digits' difference is below 0, C where the difference is
unfoldable pub subtracted : ℕ → ℕ → Bool → Out80
subtracted a b borrow =
    shown (word_of 0x100 (pos a -ℤ pos b -ℤ pos (flag_number borrow))) (nat_lt (a % 16) (b % 16 + flag_number borrow)) (difference_overflows Byte a b borrow) true (nat_lt a (b + flag_number borrow))

-- the flags of a − b; a stays
unfoldable pub compared : ℕ → ℕ → Out80
compared a b = record { value = a; f = (subtracted a b false).f }

-- one more: P/V where the operand was 7Fh, C as it was
unfoldable pub incremented : ℕ → Flags80 → Out80
incremented b flags = shown ((b + 1) % 0x100) (b % 16 == 15) (b == 0x7f) false flags.c

-- one less: P/V where the operand was 80h, C as it was
unfoldable pub decremented : ℕ → Flags80 → Out80
decremented b flags = shown ((b + 0xff) % 0x100) (b % 16 == 0) (b == 0x80) true flags.c
