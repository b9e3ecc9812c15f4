-- What each operation gives, a line each.
-- M68000 Programmer's Reference Manual, section 4.
use Rattle.std.specs.Prelude.{◌≡◌, ◌↔◌, ℕ, pos, ◌+◌, ◌-◌, ◌%◌, bit_and, bit_or, bit_xor, false}
use Rattle.md_word.specs.Width.{modulus_of, signed_of, width_of}
use Rattle.md_word.specs.declared.flags.Flags.{Flags}
use Rattle.md_word.specs.declared.size.Size.{Size}
use Rattle.md_word.specs.declared.task.Task.{Task}
use Rattle.md_word.specs.declared.task.Task.TheVariants.{Abcd, Add, Addx, And, Asl, Asr, Bchg, Bclr, Bset, Btst, Clr, Cmp, Eor, Ext, Lsl, Lsr, Move, Muls, Mulu, Nbcd, Neg, Negx, Not, Or, Rol, Ror, Roxl, Roxr, Sbcd, Sub, Subx, Swap, Tas}
use Rattle.m68k_alu.specs.declared.out.Out.{Out}
use Rattle.m68k_alu.specs.Arithmetic.{added, compared, subtracted}
use Rattle.m68k_alu.specs.Bits.{bit_named, product, set_tested, signed_product, swapped, tested, widened}
use Rattle.m68k_alu.specs.Decimal.{AddsDecimals, IsDecimal, SubtractsDecimals, decimal_added, decimal_subtracted}
use Rattle.m68k_alu.specs.Results.{moved, zero_kept}
use Rattle.m68k_alu.specs.Shifts.{SignStays, doubling_overflows, rotated_left, rotated_right, rotated_with_extend, shifted_left, shifted_right}

-- shift counts go round at 64
abbrev pub count_of : ℕ → ℕ
count_of source = source % 64

-- ABCD, NBCD, SBCD and TAS work on the low bytes of their operands. MULS, MULU and SWAP give
-- longs: at a lesser size the low part of one
abbrev pub computed : Task → Size → ℕ → ℕ → Flags → Out
computed Abcd size source target flags = decimal_added (source % 0x100) (target % 0x100) flags
computed Add size source target flags = added size source target false
computed Addx size source target flags = zero_kept flags (added size source target flags.x)
computed And size source target flags = moved size (bit_and target source) flags
computed Asl size source target flags = shifted_left size (count_of source) target (doubling_overflows size (count_of source) target) flags
computed Asr size source target flags = shifted_right size (count_of source) (signed_of size target) flags
computed Bchg size source target flags = tested (bit_named size source) target flags (bit_xor target (bit_named size source))
computed Bclr size source target flags = tested (bit_named size source) target flags (bit_and target (modulus_of size - 1 - bit_named size source))
computed Bset size source target flags = tested (bit_named size source) target flags (bit_or target (bit_named size source))
computed Btst size source target flags = tested (bit_named size source) target flags target
computed Clr size source target flags = moved size 0 flags
computed Cmp size source target flags = compared size source target flags
computed Eor size source target flags = moved size (bit_xor target source) flags
computed Ext size source target flags = moved size (widened size target) flags
computed Lsl size source target flags = shifted_left size (count_of source) target false flags
computed Lsr size source target flags = shifted_right size (count_of source) (pos target) flags
computed Move size source target flags = moved size source flags
computed Muls size source target flags = moved size (signed_product source target % modulus_of size) flags
computed Mulu size source target flags = moved size (product source target % modulus_of size) flags
computed Nbcd size source target flags = decimal_subtracted (target % 0x100) 0 flags
computed Neg size source target flags = subtracted size target 0 false
computed Negx size source target flags = zero_kept flags (subtracted size target 0 flags.x)
computed Not size source target flags = moved size (modulus_of size - 1 - target) flags
computed Or size source target flags = moved size (bit_or target source) flags
computed Rol size source target flags = rotated_left size (count_of source) target flags
computed Ror size source target flags = rotated_right size (count_of source) target flags
computed Roxl size source target flags = rotated_with_extend size (count_of source % (width_of size + 1)) target flags
computed Roxr size source target flags = rotated_with_extend size (width_of size + 1 - count_of source % (width_of size + 1)) target flags
computed Sbcd size source target flags = decimal_subtracted (source % 0x100) (target % 0x100) flags
computed Sub size source target flags = subtracted size source target false
computed Subx size source target flags = zero_kept flags (subtracted size source target flags.x)
computed Swap size source target flags = moved size (swapped target % modulus_of size) flags
computed Tas size source target flags = set_tested (target % 0x100) flags

-- on operands of two decimal digits ABCD, SBCD and NBCD add and subtract decimal numbers
abbrev pub KeepsDecimals : Task → ℕ → ℕ → Flags → Out → Type 0
KeepsDecimals Abcd source target flags out = IsDecimal source → IsDecimal target → AddsDecimals source target flags.x out
KeepsDecimals Sbcd source target flags out = IsDecimal source → IsDecimal target → SubtractsDecimals source target flags.x out
KeepsDecimals Nbcd source target flags out = IsDecimal target → SubtractsDecimals target 0 flags.x out
KeepsDecimals _ source target flags out = Unit {0}

-- V of ASL is clear where the sign bit is the target's all the way
abbrev pub ShowsSign : Task → Size → ℕ → ℕ → Out → Type 0
ShowsSign Asl size source target out = (out.flags.v ≡ false) ↔ SignStays size (count_of source) target
ShowsSign _ size source target out = Unit {0}
