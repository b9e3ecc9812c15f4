-- The fields of an opcode, and what their codes name.
-- Zilog UM0080, "Z80 Instruction Description": the tables of r, dd, qq, ss, cc and b; for the halves
-- of IX and IY, this project's profile.
use Rattle.std.specs.Prelude.{ℕ, ◌+◌, ◌*◌, ◌/◌, ◌%◌, ◌==◌, if◌then◌else◌}
use Rattle.md_word.specs.declared.bit.Bit.{Bit}
use Rattle.md_word.specs.declared.bit.Bit.TheVariants.{Bit0, Bit1, Bit2, Bit3, Bit4, Bit5, Bit6, Bit7}
use Rattle.z80_decode.specs.declared.condition.Condition.{Condition}
use Rattle.z80_decode.specs.declared.condition.Condition.TheVariants.{NonZero, Zero, NonCarry, Carry, ParityOdd, ParityEven, Positive, Negative}
use Rattle.z80_decode.specs.declared.index.Index.{Index}
use Rattle.z80_decode.specs.declared.index.Index.TheVariants as indexes
use Rattle.z80_decode.specs.declared.pair.Pair.{Pair}
use Rattle.z80_decode.specs.declared.pair.Pair.TheVariants as pairs
use Rattle.z80_decode.specs.declared.place8.Place8.{Place8}
use Rattle.z80_decode.specs.declared.place8.Place8.TheVariants as places

-- bits 5 to 3
abbrev pub upper : ℕ → ℕ
upper w = w / 8 % 8

-- bits 2 to 0
abbrev pub lower : ℕ → ℕ
lower w = w % 8

-- bits 5 and 4
abbrev pub paired : ℕ → ℕ
paired w = w / 16 % 4

-- a word of two bytes, the low one first
abbrev pub word : ℕ → ℕ → ℕ
word low high = high * 256 + low

-- (HL), or the displaced place that takes its place
abbrev pub memory_of : Index → ℕ → Place8
memory_of indexes.Hl displacement = places.AtHl
memory_of indexes.Ix displacement = places.AtIx displacement
memory_of indexes.Iy displacement = places.AtIy displacement

-- H, or the half that takes its place
abbrev pub high_half_of : Index → Place8
high_half_of indexes.Hl = places.H
high_half_of indexes.Ix = places.Ixh
high_half_of indexes.Iy = places.Iyh

-- L, or the half that takes its place
abbrev pub low_half_of : Index → Place8
low_half_of indexes.Hl = places.L
low_half_of indexes.Ix = places.Ixl
low_half_of indexes.Iy = places.Iyl

-- HL, or the register that takes its place
abbrev pub register_of : Index → Pair
register_of indexes.Hl = pairs.Hl
register_of indexes.Ix = pairs.Ix
register_of indexes.Iy = pairs.Iy

-- r: B, C, D, E, H, L, (HL), A
unfoldable pub place_of : Index → ℕ → ℕ → Place8
place_of index code displacement =
    if code == 0 then places.B else
    if code == 1 then places.C else
    if code == 2 then places.D else
    if code == 3 then places.E else
    if code == 4 then high_half_of index else
    if code == 5 then low_half_of index else
    if code == 6 then memory_of index displacement else
    places.A

-- dd and ss: BC, DE, HL, SP
unfoldable pub pair_of : Index → ℕ → Pair
pair_of index code =
    if code == 0 then pairs.Bc else
    if code == 1 then pairs.De else
    if code == 2 then register_of index else
    pairs.Sp

-- qq: BC, DE, HL, AF
unfoldable pub stacked_of : Index → ℕ → Pair
stacked_of index code =
    if code == 0 then pairs.Bc else
    if code == 1 then pairs.De else
    if code == 2 then register_of index else
    pairs.Af

-- cc: NZ, Z, NC, C, PO, PE, P, M
unfoldable pub condition_of : ℕ → Condition
condition_of code =
    if code == 0 then NonZero else
    if code == 1 then Zero else
    if code == 2 then NonCarry else
    if code == 3 then Carry else
    if code == 4 then ParityOdd else
    if code == 5 then ParityEven else
    if code == 6 then Positive else
    Negative

-- b: the bit of this number
unfoldable pub bit_of : ℕ → Bit
bit_of code =
    if code == 0 then Bit0 else
    if code == 1 then Bit1 else
    if code == 2 then Bit2 else
    if code == 3 then Bit3 else
    if code == 4 then Bit4 else
    if code == 5 then Bit5 else
    if code == 6 then Bit6 else
    Bit7
