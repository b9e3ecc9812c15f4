-- The parts of the 68000's registers.
-- M68000 Programmer's Reference Manual, sections 1.1 and 1.3.
use Rattle.std.specs.Prelude.{ℕ, ◌+◌, ◌-◌, ◌*◌, ◌/◌, ◌%◌, Bool, nat_lt, ◌==◌, if◌then◌else◌, slice_index, slice_set}
use Rattle.md_word.specs.Coding.{flag_number}
use Rattle.md_word.specs.Width.{modulus_of}
use Rattle.md_word.specs.declared.flags.Flags.{Flags}
use Rattle.md_word.specs.declared.regs.Regs.{Regs}
use Rattle.md_word.specs.declared.size.Size.{Size}

-- bit k of a word
abbrev pub bit_of : ℕ → ℕ → Bool
bit_of n k = n / k % 2 == 1

-- S of the status register
abbrev pub is_supervisor : Regs → Bool
is_supervisor regs = bit_of regs.sr 0x2000

-- X, N, Z, V and C of the status register
unfoldable pub flags_of : Regs → Flags
flags_of regs = record {
  x = bit_of regs.sr 16;
  n = bit_of regs.sr 8;
  z = bit_of regs.sr 4;
  v = bit_of regs.sr 2;
  c = bit_of regs.sr 1;
}

-- the registers with these flags
unfoldable pub with_flags : Regs → Flags → Regs
with_flags regs flags = record regs {
  sr = regs.sr / 32 * 32 + flag_number flags.x * 16 + flag_number flags.n * 8 + flag_number flags.z * 4 + flag_number flags.v * 2 + flag_number flags.c;
}

-- address register n, of which 7 is the active stack pointer
unfoldable pub address_of : Regs → ℕ → ℕ
address_of regs n =
    if nat_lt n 7 then slice_index regs.a n
    else (if is_supervisor regs then regs.ssp else regs.usp)

-- the registers with this value in address register n
unfoldable pub with_address : Regs → ℕ → ℕ → Regs
with_address regs n value =
    if nat_lt n 7 then record regs { a = slice_set regs.a n value }
    else (if is_supervisor regs then record regs { ssp = value } else record regs { usp = value })

-- register n: the data registers, then the address registers
unfoldable pub register_of : Regs → ℕ → ℕ
register_of regs n = if nat_lt n 8 then slice_index regs.d n else address_of regs (n - 8)

-- the registers with this value in register n
unfoldable pub with_register : Regs → ℕ → ℕ → Regs
with_register regs n value =
    if nat_lt n 8 then record regs { d = slice_set regs.d n value }
    else with_address regs (n - 8) value

-- a register after a write of this size: its upper part stays
unfoldable pub merged : Size → ℕ → ℕ → ℕ
merged size old value = old - old % modulus_of size + value
