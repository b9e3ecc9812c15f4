-- What the words of operands are taken for. A word that is none of those that an operand has is taken
-- for one of them, and found out when the texts are compared.
use Rattle.std.specs.Prelude.{ℕ, Bool, true, false, ◌||◌, ◌==◌, if◌then◌else◌, List, [], ◌∷◌}
use Rattle.md_word.specs.declared.bit.Bit.{Bit}
use Rattle.md_word.specs.declared.bit.Bit.TheVariants.{Bit0, Bit1, Bit2, Bit3, Bit4, Bit5, Bit6, Bit7}
use Rattle.z80_decode.specs.declared.condition.Condition.{Condition}
use Rattle.z80_decode.specs.declared.condition.Condition.TheVariants.{NonZero, Zero, NonCarry, Carry, ParityOdd, ParityEven, Positive, Negative}
use Rattle.z80_decode.specs.declared.index.Index.{Index}
use Rattle.z80_decode.specs.declared.index.Index.TheVariants as indexes
use Rattle.z80_decode.specs.declared.interrupt_mode.InterruptMode.{InterruptMode}
use Rattle.z80_decode.specs.declared.interrupt_mode.InterruptMode.TheVariants.{Mode0, Mode1, Mode2}
use Rattle.z80_decode.specs.declared.pair.Pair.{Pair}
use Rattle.z80_decode.specs.declared.pair.Pair.TheVariants as pairs
use Rattle.z80_decode.specs.declared.place8.Place8.{Place8}
use Rattle.z80_decode.specs.declared.place8.Place8.TheVariants as places
use Rattle.z80_decode.specs.declared.special.Special.{Special}
use Rattle.z80_decode.specs.declared.special.Special.TheVariants.{Interrupt, Refresh}

-- a register of one letter
abbrev pub letter8 : ℕ → Place8
letter8 c =
    if c == 98 then places.B else (if c == 99 then places.C else (if c == 100 then places.D else
    (if c == 101 then places.E else (if c == 104 then places.H else (if c == 108 then places.L else places.A)))))

-- half of IX or IY, by its last two letters
abbrev pub half8 : ℕ → ℕ → Place8
half8 index half =
    if index == 120 then (if half == 104 then places.Ixh else places.Ixl) else (if half == 104 then places.Iyh else places.Iyl)

-- a register of 8 bits
unfoldable pub register8 : List ℕ → Place8
register8 (c ∷ []) = letter8 c
register8 (c ∷ index ∷ half ∷ cs) = half8 index half
register8 word = places.A

-- the place that a register of 16 bits points to
unfoldable pub at_pair : List ℕ → Place8
at_pair (c ∷ cs) = if c == 98 then places.AtBc else (if c == 100 then places.AtDe else places.AtHl)
at_pair [] = places.AtHl

-- IX and IY, with a displacement
unfoldable pub displaced : List ℕ → ℕ → Place8
displaced (c ∷ index ∷ cs) by = if index == 120 then places.AtIx by else places.AtIy by
displaced word by = places.AtIx by

-- a register of 16 bits, by its two letters
abbrev pub letters16 : ℕ → ℕ → Pair
letters16 c index =
    if c == 98 then pairs.Bc else (if c == 100 then pairs.De else (if c == 115 then pairs.Sp else
    (if c == 97 then pairs.Af else (if c == 105 then (if index == 120 then pairs.Ix else pairs.Iy) else pairs.Hl))))

unfoldable pub pair_of : List ℕ → Pair
pair_of (c ∷ index ∷ cs) = letters16 c index
pair_of word = pairs.Hl

-- the name of a register of 16 bits has two letters
unfoldable pub is_pair : List ℕ → Bool
is_pair (c ∷ index ∷ []) = true
is_pair word = false

-- HL, or what a prefix makes of it
abbrev pub letters_index : ℕ → ℕ → Index
letters_index c index = if c == 105 then (if index == 120 then indexes.Ix else indexes.Iy) else indexes.Hl

unfoldable pub index_of : List ℕ → Index
index_of (c ∷ index ∷ cs) = letters_index c index
index_of word = indexes.Hl

unfoldable pub is_index : List ℕ → Bool
is_index (c ∷ cs) = c == 104 || c == 105
is_index [] = false

-- a condition of one letter, or of two
abbrev pub letter_condition : ℕ → Condition
letter_condition c = if c == 122 then Zero else (if c == 99 then Carry else (if c == 112 then Positive else Negative))

abbrev pub letters_condition : ℕ → ℕ → Condition
letters_condition c d =
    if c == 110 then (if d == 122 then NonZero else NonCarry) else (if d == 111 then ParityOdd else ParityEven)

unfoldable pub condition_of : List ℕ → Condition
condition_of (c ∷ []) = letter_condition c
condition_of (c ∷ d ∷ cs) = letters_condition c d
condition_of [] = Negative

-- the number of a bit
abbrev pub digit_bit : ℕ → Bit
digit_bit c =
    if c == 48 then Bit0 else (if c == 49 then Bit1 else (if c == 50 then Bit2 else (if c == 51 then Bit3 else
    (if c == 52 then Bit4 else (if c == 53 then Bit5 else (if c == 54 then Bit6 else Bit7))))))

unfoldable pub bit_of : List ℕ → Bit
bit_of (c ∷ cs) = digit_bit c
bit_of [] = Bit7

-- the number of an interrupt mode
unfoldable pub mode_of : List ℕ → InterruptMode
mode_of (c ∷ cs) = if c == 48 then Mode0 else (if c == 49 then Mode1 else Mode2)
mode_of [] = Mode2

-- the interrupt vector register or the refresh register
unfoldable pub special_of : List ℕ → Special
special_of (c ∷ cs) = if c == 105 then Interrupt else Refresh
special_of [] = Refresh

unfoldable pub is_special : List ℕ → Bool
is_special (c ∷ []) = c == 105 || c == 114
is_special word = false

-- AF
unfoldable pub is_af : List ℕ → Bool
is_af (c ∷ cs) = c == 97
is_af [] = false
