-- Sums and differences with their condition codes.
-- M68000 Programmer's Reference Manual, section 3.2: carry and borrow are of the whole numbers,
-- overflow is of the numbers in two's complement.
use Rattle.std.specs.Prelude.{ℕ, pos, ◌+◌, ◌%◌, ◌-ℤ◌, Bool, false, nat_lt, nat_le}
use Rattle.md_word.specs.Coding.{flag_number}
use Rattle.md_word.specs.Width.{difference_overflows, modulus_of, sum_overflows, word_of}
use Rattle.md_word.specs.declared.flags.Flags.{Flags}
use Rattle.md_word.specs.declared.size.Size.{Size}
use Rattle.m68k_alu.specs.declared.out.Out.{Out}
use Rattle.m68k_alu.specs.Results.{shown}

-- target + source + carry; X and C where the sum passes the size
unfoldable pub added : Size → ℕ → ℕ → Bool → Out
added size source target carry =
    let out = nat_le (modulus_of size) (source + target + flag_number carry) in
    shown size ((source + target + flag_number carry) % modulus_of size) out (sum_overflows size target source carry) out

-- the difference within the size
unfoldable pub difference : Size → ℕ → ℕ → Bool → ℕ
difference size source target borrow = word_of (modulus_of size) (pos target -ℤ pos source -ℤ pos (flag_number borrow))

-- target − source − borrow; X and C where the difference is below 0
unfoldable pub subtracted : Size → ℕ → ℕ → Bool → Out
subtracted size source target borrow =
    let below = nat_lt target (source + flag_number borrow) in
    shown size (difference size source target borrow) below (difference_overflows size target source borrow) below

-- the flags of target − source, but for X; the target stays
unfoldable pub compared : Size → ℕ → ℕ → Flags → Out
compared size source target flags =
    let out = subtracted size source target false in
    record { value = target; flags = record out.flags { x = flags.x } }
