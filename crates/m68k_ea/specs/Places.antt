-- Where the operand of an addressing mode is.
-- M68000 Programmer's Reference Manual, section 2.2; for odd addresses M68000 User's Manual,
-- section 6.3.10.
use Rattle.std.specs.Prelude.{◌≡◌, ◌≢◌, ℕ, ◌+◌, ◌%◌, ◌<◌, Bool, true, false, IsTrue, IsFalse, ◌==◌, if◌then◌else◌}
use Rattle.md_word.specs.Width.{modulus_of}
use Rattle.md_word.specs.declared.mode.Mode.{Mode}
use Rattle.md_word.specs.declared.mode.Mode.TheVariants.{Address, Data, Immediate}
use Rattle.md_word.specs.declared.regs.Regs.{Regs}
use Rattle.md_word.specs.declared.size.Size.{Size}
use Rattle.md_word.specs.declared.size.Size.TheVariants.{Byte, Word, Long}
use Rattle.m68k_ea.specs.declared.places.Place.{Place}
use Rattle.m68k_ea.specs.declared.places.Place.TheVariants as places
use Rattle.m68k_ea.specs.Addresses.{effective_address}

-- whether an operand of this size may not be at this address: a word or long at an odd one
abbrev pub is_misaligned : Size → ℕ → Bool
is_misaligned Byte at = false
is_misaligned Word at = at % 2 == 1
is_misaligned Long at = at % 2 == 1

-- the place of an operand in memory
unfoldable pub standing : Size → ℕ → Place
standing size at = if is_misaligned size at then places.Odd at else places.Memory at

-- a register by its number of sixteen; of immediate data as much as the size takes
abbrev pub place_of : Mode → Size → Regs → ℕ → Place
place_of (Data n) size regs pc = places.Register n
place_of (Address n) size regs pc = places.Register (n + 8)
place_of (Immediate value) size regs pc = places.Immediate (value % modulus_of size)
place_of mode size regs pc = standing size (effective_address mode size regs pc)

-- whether a mode names memory
abbrev pub is_memory : Mode → Bool
is_memory (Data n) = false
is_memory (Address n) = false
is_memory (Immediate value) = false
is_memory _ = true

-- a word or long whose address by this mode is odd
pub record StandsOdd (mode : Mode) (size : Size) (regs : Regs) (pc at : ℕ) : Type 0 where
  pub memory : IsTrue (is_memory mode)
  pub address : at ≡ effective_address mode size regs pc
  pub larger : size ≢ Byte
  pub odd : at % 2 ≡ 1

-- the place is odd for each such operand, and for no other
pub record OddExactly (mode : Mode) (size : Size) (regs : Regs) (pc : ℕ) (place : Place) : Type 0 where
  pub found : (at : ℕ) → place ≡ places.Odd at → StandsOdd mode size regs pc at
  pub only : (at : ℕ) → StandsOdd mode size regs pc at → place ≡ places.Odd at

-- what every place keeps: one of sixteen registers, an aligned address, data of the size
abbrev pub IsPlace : Size → Place → Type 0
IsPlace size (places.Register n) = n < 16
IsPlace size (places.Memory at) = IsFalse (is_misaligned size at)
IsPlace size (places.Immediate value) = value < modulus_of size
IsPlace size (places.Odd at) = IsTrue (is_misaligned size at)
