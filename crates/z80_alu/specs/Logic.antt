-- The logical operations, the bits, and the operations on flags.
-- Zilog UM0080, "8-Bit Arithmetic Group", "General-Purpose Arithmetic and CPU Control Groups", "Bit
-- Set, Reset, and Test Group", "Input and Output Group".
use Rattle.std.specs.Prelude.{ℕ, ◌-◌, ◌/◌, ◌%◌, Bool, true, false, not, ◌==◌, bit_and, bit_or}
use Rattle.md_word.specs.declared.bit.Bit.{Bit}
use Rattle.md_word.specs.declared.bit.Bit.TheVariants.{Bit0, Bit1, Bit2, Bit3, Bit4, Bit5, Bit6, Bit7}
use Rattle.z80_alu.specs.declared.flags80.Flags80.{Flags80}
use Rattle.z80_alu.specs.declared.out80.Out80.{Out80}
use Rattle.z80_alu.specs.Flags.{parity, shown, reported}

-- AND, OR, XOR: P/V is the parity
unfoldable pub logical : ℕ → Bool → Out80
logical value h = shown value h (parity value) false false

-- IN r,(C): C as it was
unfoldable pub read_in : ℕ → Flags80 → Out80
read_in value flags = shown value false (parity value) false flags.c

-- CPL: each bit the other way
unfoldable pub complemented : ℕ → Flags80 → Out80
complemented a flags = reported (0xff - a) (record flags { h = true; n = true })

-- SCF
unfoldable pub carry_set : ℕ → Flags80 → Out80
carry_set a flags = reported a (record flags { h = false; n = false; c = true })

-- CCF: H is the carry as it was
unfoldable pub carry_changed : ℕ → Flags80 → Out80
carry_changed a flags = reported a (record flags { h = flags.c; n = false; c = not flags.c })

-- what a bit is worth
abbrev pub worth_of : Bit → ℕ
worth_of Bit0 = 1
worth_of Bit1 = 2
worth_of Bit2 = 4
worth_of Bit3 = 8
worth_of Bit4 = 16
worth_of Bit5 = 32
worth_of Bit6 = 64
worth_of Bit7 = 128

-- BIT: Z where the bit is 0
unfoldable pub bit_tested : Bit → ℕ → Flags80 → Out80
bit_tested bit b flags = reported b (record flags { z = b / worth_of bit % 2 == 0; h = true; n = false })

-- RES: the bit is 0, and F as it was
unfoldable pub bit_reset : Bit → ℕ → ℕ → Out80
bit_reset bit b f = record { value = bit_and b (0xff - worth_of bit); f = f }

-- SET: the bit is 1, and F as it was
unfoldable pub bit_set : Bit → ℕ → ℕ → Out80
bit_set bit b f = record { value = bit_or b (worth_of bit); f = f }
