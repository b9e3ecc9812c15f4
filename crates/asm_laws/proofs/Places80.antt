-- The operands and codes of what is made of tokens of the Z80 are bytes.
use Rattle.std.proofs.Common.{ℕ, zero, suc, ◌/◌, ◌%◌, ◌<◌, ◌≤◌, ◌==◌, Bool, true, false, List, [], ◌∷◌, ◌++◌, arith, if◌then◌else◌}
use Rattle.md_word.specs.declared.bit.Bit.{Bit}
use Rattle.md_word.specs.declared.bit.Bit.TheVariants.{Bit0}
use Rattle.md_word.specs.declared.task80.Task80.{Task80}
use Rattle.md_word.specs.declared.task80.Task80.TheVariants as tasks
use Rattle.z80_decode.specs.declared.condition.Condition.{Condition}
use Rattle.z80_decode.specs.declared.condition.Condition.TheVariants as conditions
use Rattle.z80_decode.specs.declared.index.Index.{Index}
use Rattle.z80_decode.specs.declared.index.Index.TheVariants as indexes
use Rattle.z80_decode.specs.declared.interrupt_mode.InterruptMode.{InterruptMode}
use Rattle.z80_decode.specs.declared.interrupt_mode.InterruptMode.TheVariants as interrupts
use Rattle.z80_decode.specs.declared.pair.Pair.{Pair}
use Rattle.z80_decode.specs.declared.pair.Pair.TheVariants as pairs
use Rattle.z80_decode.specs.declared.place8.Place8.{Place8}
use Rattle.z80_decode.specs.declared.place8.Place8.TheVariants as places
use Rattle.z80_decode.specs.declared.special.Special.{Special}
use Rattle.z80_decode.specs.declared.special.Special.TheVariants as specials
use Rattle.asm_z80.specs.Coded80.{AreBytes}
use Rattle.asm_z80.specs.Encoding80.{arithmetic_code, bit_code, bits_prefix, change_code, changed_code, computed_code, condition_code, displaced_code, index_prefix, load_code, mode_code, operand_bytes, pair_code, place_code, source_code, special_code, step_code, word_bytes}
use Rattle.asm_z80.specs.Building as building
use Rattle.asm_z80.specs.Forms.{Form, Nothing, Worded, AtWord, Displaced, Bare, AtNumber}
use Rattle.asm_z80.specs.Words.{at_pair, displaced, register8}

-- ---- bytes

pub none_byte : AreBytes []
none_byte i = omega arith

pub cons_byte : (x : ℕ) (xs : List ℕ) → x < 256 → AreBytes xs → AreBytes (x ∷ xs)
cons_byte x xs h k zero = h
cons_byte x xs h k (suc i) = k i

pub append_bytes : (xs ys : List ℕ) → AreBytes xs → AreBytes ys → AreBytes (xs ++ ys)
append_bytes [] ys h k i = k i
append_bytes (x ∷ xs) ys h k zero = h 0
append_bytes (x ∷ xs) ys h k (suc i) = append_bytes xs ys (λ j. h (suc j)) k i

pub byte_alone : (n : ℕ) → n < 256 → AreBytes (n ∷ [])
byte_alone n h = cons_byte n [] h none_byte

pub two_bytes : (n : ℕ) → n < 65536 → AreBytes (word_bytes n)
two_bytes n h = cons_byte (n % 256) (n / 256 ∷ []) (omega arith) (byte_alone (n / 256) (omega arith))

-- ---- places

-- its numbers are of their size
abbrev pub IsPlace : Place8 → Type 0
IsPlace (places.AtIx by) = by < 256
IsPlace (places.AtIy by) = by < 256
IsPlace (places.Number n) = n < 256
IsPlace (places.At address) = address < 65536
IsPlace place = Unit {0}

pub letter_by : (a b c d e f : Bool)
    → IsPlace (if a then places.B else (if b then places.C else (if c then places.D else (if d then places.E else (if e then places.H else (if f then places.L else places.A))))))
letter_by true b c d e f = tt
letter_by false true c d e f = tt
letter_by false false true d e f = tt
letter_by false false false true e f = tt
letter_by false false false false true f = tt
letter_by false false false false false true = tt
letter_by false false false false false false = tt

pub half_by : (a b : Bool) → IsPlace (if a then (if b then places.Ixh else places.Ixl) else (if b then places.Iyh else places.Iyl))
half_by true true = tt
half_by true false = tt
half_by false true = tt
half_by false false = tt

pub register_place : (word : List ℕ) → IsPlace (register8 word)
unfolding register8
register_place [] = tt
register_place (c ∷ []) = letter_by (c == 98) (c == 99) (c == 100) (c == 101) (c == 104) (c == 108)
register_place (c ∷ d ∷ []) = tt
register_place (c ∷ index ∷ half ∷ cs) = half_by (index == 120) (half == 104)

pub pair_by : (a b : Bool) → IsPlace (if a then places.AtBc else (if b then places.AtDe else places.AtHl))
pair_by true b = tt
pair_by false true = tt
pair_by false false = tt

pub pair_place : (word : List ℕ) → IsPlace (at_pair word)
unfolding at_pair
pair_place [] = tt
pair_place (c ∷ cs) = pair_by (c == 98) (c == 100)

pub displaced_by : (a : Bool) (by : ℕ) → by < 256 → IsPlace (if a then places.AtIx by else places.AtIy by)
displaced_by true by h = h
displaced_by false by h = h

pub displaced_place : (word : List ℕ) (by : ℕ) → by < 256 → IsPlace (displaced word by)
unfolding displaced
displaced_place [] by h = h
displaced_place (c ∷ []) by h = h
displaced_place (c ∷ index ∷ cs) by h = displaced_by (index == 120) by h

pub form_place : (form : Form) → IsPlace (building.place form)
form_place (Worded word) = register_place word
form_place (AtWord word) = pair_place word
form_place (Displaced word n) = displaced_place word (n % 256) (omega arith)
form_place (Bare n) = omega arith
form_place (AtNumber n) = omega arith
form_place Nothing = tt

pub place_bytes : (place : Place8) → IsPlace place → AreBytes (operand_bytes place)
place_bytes (places.AtIx by) h = byte_alone by h
place_bytes (places.AtIy by) h = byte_alone by h
place_bytes (places.Number n) h = byte_alone n h
place_bytes (places.At address) h = two_bytes address h
place_bytes _ h = none_byte

pub prefix_place : (place : Place8) → IsPlace place → AreBytes (bits_prefix place)
prefix_place (places.AtIx by) h = cons_byte 0xdd (0xcb ∷ by ∷ []) (omega arith) (cons_byte 0xcb (by ∷ []) (omega arith) (byte_alone by h))
prefix_place (places.AtIy by) h = cons_byte 0xfd (0xcb ∷ by ∷ []) (omega arith) (cons_byte 0xcb (by ∷ []) (omega arith) (byte_alone by h))
prefix_place _ h = byte_alone 0xcb (omega arith)

-- ---- codes

pub index_bytes : (index : Index) → AreBytes (index_prefix index)
index_bytes indexes.Hl = none_byte
index_bytes indexes.Ix = byte_alone 0xdd (omega arith)
index_bytes indexes.Iy = byte_alone 0xfd (omega arith)

pub extended_prefix : AreBytes (0xed ∷ [])
extended_prefix = byte_alone 0xed (omega arith)

pub place_low : (place : Place8) → place_code place < 8
place_low places.B = omega arith
place_low _ = omega arith

pub source_low : (target : ℕ) (source : Place8) → target < 8 → source_code target source < 256
source_low target places.AtBc h = omega arith
source_low target places.AtDe h = omega arith
source_low target (places.At address) h = omega arith
source_low target (places.Number n) h = omega arith
source_low target source h = let low = place_low source in omega arith

pub load_low : (target source : Place8) → load_code target source < 256
load_low places.AtBc source = omega arith
load_low places.AtDe source = omega arith
load_low (places.At address) source = omega arith
load_low target source = source_low (place_code target) source (place_low target)

pub arithmetic_low : (task : Task80) → arithmetic_code task ≤ 56
arithmetic_low tasks.Adc = omega arith
arithmetic_low _ = omega arith

pub computed_low : (task : ℕ) (source : Place8) → task ≤ 56 → computed_code task source < 256
computed_low task (places.Number n) h = omega arith
computed_low task source h = let low = place_low source in omega arith

pub step_low : (task : Task80) → step_code task ≤ 5
step_low tasks.Dec = omega arith
step_low _ = omega arith

pub bit_low : (bit : Bit) → bit_code bit ≤ 56
bit_low Bit0 = omega arith
bit_low _ = omega arith

pub change_low : (task : Task80) → change_code task ≤ 248
change_low (tasks.Res bit) = let low = bit_low bit in omega arith
change_low (tasks.Set bit) = let low = bit_low bit in omega arith
change_low _ = omega arith

pub displaced_low : (task : Task80) → displaced_code task < 8
displaced_low tasks.Sll = omega arith
displaced_low _ = omega arith

pub changed_low : (displaced : ℕ) (place : Place8) → displaced < 8 → changed_code displaced place < 8
changed_low displaced (places.AtIx by) h = h
changed_low displaced (places.AtIy by) h = h
changed_low displaced place h = place_low place

pub pair_low : (pair : Pair) → pair_code pair ≤ 48
pair_low pairs.Bc = omega arith
pair_low _ = omega arith

pub condition_low : (condition : Condition) → condition_code condition ≤ 56
condition_low conditions.NonZero = omega arith
condition_low _ = omega arith

pub special_low : (special : Special) → special_code special ≤ 8
special_low specials.Interrupt = omega arith
special_low specials.Refresh = omega arith

pub interrupt_low : (mode : InterruptMode) → mode_code mode < 256
interrupt_low interrupts.Mode0 = omega arith
interrupt_low _ = omega arith
