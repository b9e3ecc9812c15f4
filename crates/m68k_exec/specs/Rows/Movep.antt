-- MOVEP: the bytes of a register are at every other address, the highest byte first.
-- M68000 Programmer's Reference Manual, section 4.
use Rattle.std.specs.Prelude.{ℕ, ◌+◌, ◌*◌, ◌/◌, ◌%◌, ◌^◌}
use Rattle.md_word.specs.Fields.{register_of}
use Rattle.md_word.specs.Width.{modulus_of}
use Rattle.md_word.specs.declared.mode.Mode.TheVariants.{Displaced}
use Rattle.md_word.specs.declared.regs.Regs.{Regs}
use Rattle.md_word.specs.declared.size.Size.{Size}
use Rattle.md_word.specs.declared.size.Size.TheVariants.{Byte, Word, Long}
use Rattle.m68k_ea.specs.Addresses.{effective_address}
use Rattle.m68k_access.specs.Actions.{Act, ◌>>=◌, give, read_byte, write_byte}
use Rattle.m68k_access.specs.Operands.{with_part}
use Rattle.m68k_access.specs.Outcomes.{Outcome, plain}
use Rattle.m68k_access.specs.Shapes.{following}

-- a word from two bytes, at the address and 2 further
unfoldable pub spread_word : ℕ → Act ℕ
spread_word at = do
  high ← read_byte at
  low ← read_byte ((at + 2) % 2 ^ 32)
  give (high * 0x100 + low)

-- a long from four bytes, each 2 further than the one before
unfoldable pub spread_long : ℕ → Act ℕ
spread_long at = do
  high ← spread_word at
  low ← spread_word ((at + 4) % 2 ^ 32)
  give (high * 0x1_0000 + low)

-- what MOVEP reads; it has words and longs alone
abbrev pub read_spread : Size → ℕ → Act ℕ
read_spread Byte at = read_byte at
read_spread Word at = spread_word at
read_spread Long at = spread_long at

-- a word as two bytes, at the address and 2 further
unfoldable pub write_spread_word : ℕ → ℕ → Act (Unit {0})
write_spread_word at value = do
  first ← write_byte at (value / 0x100)
  write_byte ((at + 2) % 2 ^ 32) (value % 0x100)

-- a long as four bytes, each 2 further than the one before
unfoldable pub write_spread_long : ℕ → ℕ → Act (Unit {0})
write_spread_long at value = do
  first ← write_spread_word at (value / 0x1_0000)
  write_spread_word ((at + 4) % 2 ^ 32) (value % 0x1_0000)

-- what MOVEP writes; it has words and longs alone
abbrev pub write_spread : Size → ℕ → ℕ → Act (Unit {0})
write_spread Byte at value = write_byte at value
write_spread Word at value = write_spread_word at value
write_spread Long at value = write_spread_long at value

-- MOVEP d16(Ay),Dx
unfoldable pub movep_to_register : Size → ℕ → ℕ → ℕ → ℕ → Regs → Act Outcome
movep_to_register size x y by start regs = do
  value ← read_spread size (effective_address (Displaced y by) size regs (following start 2))
  give (plain (with_part size x value regs))

-- MOVEP Dx,d16(Ay)
unfoldable pub movep_to_memory : Size → ℕ → ℕ → ℕ → ℕ → Regs → Act Outcome
movep_to_memory size x y by start regs = do
  let at = effective_address (Displaced y by) size regs (following start 2)
  written ← write_spread size at (register_of regs x % modulus_of size)
  give (plain regs)
