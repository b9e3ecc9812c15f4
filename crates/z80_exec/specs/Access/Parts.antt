-- The parts of the Z80's registers. Zilog UM0080, "CPU Register".
use Rattle.std.specs.Prelude.{ℕ, pos, ◌+◌, ◌*◌, ◌/◌, ◌%◌, ◌+ℤ◌}
use Rattle.md_word.specs.Width.{signed_of, word_of}
use Rattle.md_word.specs.declared.size.Size.TheVariants.{Byte}
use Rattle.z80_decode.specs.declared.index.Index.{Index}
use Rattle.z80_decode.specs.declared.index.Index.TheVariants as indexes
use Rattle.z80_decode.specs.declared.pair.Pair.{Pair}
use Rattle.z80_decode.specs.declared.pair.Pair.TheVariants as pairs
use Rattle.z80_decode.specs.declared.place8.Place8.{Place8}
use Rattle.z80_decode.specs.declared.place8.Place8.TheVariants as places
use Rattle.z80_exec.specs.declared.regs80.Regs80.{Regs80}

-- the upper byte of a word
abbrev pub high : ℕ → ℕ
high w = w / 0x100

-- the lower byte of a word
abbrev pub low : ℕ → ℕ
low w = w % 0x100

-- a word with another upper byte
abbrev pub with_high : ℕ → ℕ → ℕ
with_high w value = value * 0x100 + low w

-- a word with another lower byte
abbrev pub with_low : ℕ → ℕ → ℕ
with_low w value = high w * 0x100 + value

-- the accumulator, the upper byte of AF
abbrev pub a_of : Regs80 → ℕ
a_of regs = high regs.af

-- F, the lower byte of AF
abbrev pub f_of : Regs80 → ℕ
f_of regs = low regs.af

-- another accumulator and F
unfoldable pub with_af : ℕ → ℕ → Regs80 → Regs80
with_af a f regs = record regs { af = a * 0x100 + f }

-- another F, and the accumulator as it was
unfoldable pub with_f : ℕ → Regs80 → Regs80
with_f f regs = record regs { af = with_low regs.af f }

-- a register of 16 bits
unfoldable pub pair_of : Pair → Regs80 → ℕ
pair_of pairs.Bc regs = regs.bc
pair_of pairs.De regs = regs.de
pair_of pairs.Hl regs = regs.hl
pair_of pairs.Sp regs = regs.sp
pair_of pairs.Af regs = regs.af
pair_of pairs.Ix regs = regs.ix
pair_of pairs.Iy regs = regs.iy

-- another value in a register of 16 bits
unfoldable pub with_pair : Pair → ℕ → Regs80 → Regs80
with_pair pairs.Bc value regs = record regs { bc = value }
with_pair pairs.De value regs = record regs { de = value }
with_pair pairs.Hl value regs = record regs { hl = value }
with_pair pairs.Sp value regs = record regs { sp = value }
with_pair pairs.Af value regs = record regs { af = value }
with_pair pairs.Ix value regs = record regs { ix = value }
with_pair pairs.Iy value regs = record regs { iy = value }

-- HL, or the index register in its place
abbrev pub pair_at : Index → Pair
pair_at indexes.Hl = pairs.Hl
pair_at indexes.Ix = pairs.Ix
pair_at indexes.Iy = pairs.Iy

-- a register of 8 bits, or a number of the instruction
unfoldable pub byte_of : Place8 → Regs80 → ℕ
byte_of places.A regs = high regs.af
byte_of places.B regs = high regs.bc
byte_of places.C regs = low regs.bc
byte_of places.D regs = high regs.de
byte_of places.E regs = low regs.de
byte_of places.H regs = high regs.hl
byte_of places.L regs = low regs.hl
byte_of places.Ixh regs = high regs.ix
byte_of places.Ixl regs = low regs.ix
byte_of places.Iyh regs = high regs.iy
byte_of places.Iyl regs = low regs.iy
byte_of (places.Number n) regs = n
byte_of _ regs = 0

-- another value in a register of 8 bits; at any other place the registers stay
unfoldable pub with_byte : Place8 → ℕ → Regs80 → Regs80
with_byte places.A value regs = record regs { af = with_high regs.af value }
with_byte places.B value regs = record regs { bc = with_high regs.bc value }
with_byte places.C value regs = record regs { bc = with_low regs.bc value }
with_byte places.D value regs = record regs { de = with_high regs.de value }
with_byte places.E value regs = record regs { de = with_low regs.de value }
with_byte places.H value regs = record regs { hl = with_high regs.hl value }
with_byte places.L value regs = record regs { hl = with_low regs.hl value }
with_byte places.Ixh value regs = record regs { ix = with_high regs.ix value }
with_byte places.Ixl value regs = record regs { ix = with_low regs.ix value }
with_byte places.Iyh value regs = record regs { iy = with_high regs.iy value }
with_byte places.Iyl value regs = record regs { iy = with_low regs.iy value }
with_byte _ value regs = regs

-- so far from an address, by a byte in two's complement
unfoldable pub displaced : ℕ → ℕ → ℕ
displaced address distance = word_of 0x1_0000 (pos address +ℤ signed_of Byte distance)

-- the next number of 16 bits
abbrev pub up : ℕ → ℕ
up n = (n + 1) % 0x1_0000

-- the previous number of 16 bits
abbrev pub down : ℕ → ℕ
down n = (n + 0xffff) % 0x1_0000

-- the previous number of 8 bits
abbrev pub byte_down : ℕ → ℕ
byte_down n = (n + 0xff) % 0x100
