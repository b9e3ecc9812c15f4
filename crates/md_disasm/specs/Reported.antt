-- The numbers in an operand of 8 bits of the Z80, as its bytes have them.
use Rattle.std.specs.Prelude.{◌<◌, ◌^◌}
use Rattle.z80_decode.specs.declared.place8.Place8.{Place8}
use Rattle.z80_decode.specs.declared.place8.Place8.TheVariants as places

-- a displacement and a number have a byte, an address has a word
abbrev pub IsByteOrWord : Place8 → Type 0
IsByteOrWord (places.AtIx displacement) = displacement < 2 ^ 8
IsByteOrWord (places.AtIy displacement) = displacement < 2 ^ 8
IsByteOrWord (places.At address) = address < 2 ^ 16
IsByteOrWord (places.Number n) = n < 2 ^ 8
IsByteOrWord place = Unit {0}
