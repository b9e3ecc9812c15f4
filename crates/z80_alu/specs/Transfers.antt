-- The flags of loads from I and R, and of block instructions.
-- Zilog UM0080, "8-Bit Load Group", "Exchange, Block Transfer, Block Search Group", "Input and Output
-- Group"; flags that it calls unknown stay.
use Rattle.std.specs.Prelude.{ℕ, Bool, false, true, not, ◌==◌}
use Rattle.z80_alu.specs.Arithmetic.{subtracted}
use Rattle.z80_alu.specs.Flags.{byte_of, flags_of, shown}

-- LD A,I and LD A,R: P/V is IFF2
unfoldable pub special_loaded : ℕ → Bool → ℕ → ℕ
special_loaded value iff2 f = (shown value false iff2 false (flags_of f).c).f

-- LDI and its kin: P/V is whether the counter is not 0
unfoldable pub block_loaded : ℕ → ℕ → ℕ
block_loaded counter f = byte_of (record (flags_of f) { h = false; pv = not (counter == 0); n = false })

-- CPI and its kin: S, Z and H of a − b, C as it was
unfoldable pub block_compared : ℕ → ℕ → ℕ → ℕ → ℕ
block_compared a b counter f =
    byte_of (record (flags_of (subtracted a b false).f) { pv = not (counter == 0); c = (flags_of f).c })

-- INI, OUTI and their kin: N, and Z by the counter
unfoldable pub block_passed : ℕ → ℕ → ℕ
block_passed counter f = byte_of (record (flags_of f) { z = counter == 0; n = true })
