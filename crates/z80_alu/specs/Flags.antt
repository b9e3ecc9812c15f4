-- The flags as bits of F. Bits 5 and 3 are 0 in what is computed.
-- Zilog UM0080, "Flag Register"; for bits 5 and 3, this project's profile.
use Rattle.std.specs.Prelude.{ℕ, ◌+◌, ◌*◌, ◌/◌, ◌%◌, Bool, ◌==◌, nat_le, count_ones}
use Rattle.md_word.specs.Coding.{flag_number}
use Rattle.z80_alu.specs.declared.flags80.Flags80.{Flags80}
use Rattle.z80_alu.specs.declared.out80.Out80.{Out80}

-- the flags that a byte holds
unfoldable pub flags_of : ℕ → Flags80
flags_of f = record {
  s = f / 128 % 2 == 1;
  z = f / 64 % 2 == 1;
  h = f / 16 % 2 == 1;
  pv = f / 4 % 2 == 1;
  n = f / 2 % 2 == 1;
  c = f % 2 == 1;
}

-- the byte of these flags
unfoldable pub byte_of : Flags80 → ℕ
byte_of flags =
    128 * flag_number flags.s + 64 * flag_number flags.z + 16 * flag_number flags.h + 4 * flag_number flags.pv + 2 * flag_number flags.n + flag_number flags.c

-- whether the number of ones is even
abbrev pub parity : ℕ → Bool
parity value = count_ones value % 2 == 0

-- whether the sign bit of a byte is set
abbrev pub sign : ℕ → Bool
sign value = nat_le 0x80 value

-- a value with these flags
unfoldable pub reported : ℕ → Flags80 → Out80
reported value flags = record { value = value; f = byte_of flags }

-- a value with S and Z by it
unfoldable pub shown : ℕ → Bool → Bool → Bool → Bool → Out80
shown value h pv n c = reported value (record { s = sign value; z = value == 0; h = h; pv = pv; n = n; c = c })
