-- Operations of 16 bits. Zilog UM0080, "16-Bit Arithmetic Group".
use Rattle.z80_alu.specs.Flags.{flags_of}
use Rattle.z80_alu.specs.Pairs.{pair_added, pair_added_with_carry, pair_subtracted}
use Rattle.z80_alu.specs.declared.out16.Out16.{Out16}
use Rattle.z80_decode.specs.declared.index.Index.{Index}
use Rattle.z80_decode.specs.declared.pair.Pair.{Pair}
use Rattle.z80_decode.specs.declared.pair.Pair.TheVariants.{Hl}
use Rattle.z80_exec.specs.declared.regs80.Regs80.{Regs80}
use Rattle.z80_exec.specs.Access.Parts.{down, f_of, pair_at, pair_of, up, with_f, with_pair}

-- the registers with a result and its flags
abbrev pub resulting : Pair → Out16 → Regs80 → Regs80
resulting pair out regs = with_f out.f (with_pair pair out.value regs)

-- ADD HL,ss
unfoldable pub add_pair : Index → Pair → Regs80 → Regs80
add_pair index pair regs =
    resulting (pair_at index) (pair_added (pair_of (pair_at index) regs) (pair_of pair regs) (f_of regs)) regs

-- ADC HL,ss
unfoldable pub add_pair_with_carry : Pair → Regs80 → Regs80
add_pair_with_carry pair regs =
    resulting Hl (pair_added_with_carry regs.hl (pair_of pair regs) (flags_of (f_of regs)).c) regs

-- SBC HL,ss
unfoldable pub subtract_pair_with_carry : Pair → Regs80 → Regs80
subtract_pair_with_carry pair regs =
    resulting Hl (pair_subtracted regs.hl (pair_of pair regs) (flags_of (f_of regs)).c) regs

-- INC of 16 bits, which sets no flags
unfoldable pub increment_pair : Pair → Regs80 → Regs80
increment_pair pair regs = with_pair pair (up (pair_of pair regs)) regs

-- DEC of 16 bits, which sets no flags
unfoldable pub decrement_pair : Pair → Regs80 → Regs80
decrement_pair pair regs = with_pair pair (down (pair_of pair regs)) regs
