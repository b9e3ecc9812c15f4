-- How the texts of operands fall into tokens, and what is read of them.
use Rattle.std.proofs.Common.{◌≡◌, ℕ, ◌<◌, Bool, true, false, List, [], ◌∷◌, ◌++◌, nat_lt, refl, ap, ◌∙◌, arith, codes}
use Rattle.std.proofs.lemmas.Bool.Decides.{nat_tests}
use Rattle.md_word.specs.declared.bit.Bit.{Bit}
use Rattle.md_word.specs.declared.bit.Bit.TheVariants.{Bit0, Bit1, Bit2, Bit3, Bit4, Bit5, Bit6, Bit7}
use Rattle.z80_decode.specs.declared.condition.Condition.{Condition}
use Rattle.z80_decode.specs.declared.condition.Condition.TheVariants.{NonZero, Zero, NonCarry, Carry, ParityOdd, ParityEven, Positive, Negative}
use Rattle.z80_decode.specs.declared.interrupt_mode.InterruptMode.{InterruptMode}
use Rattle.z80_decode.specs.declared.interrupt_mode.InterruptMode.TheVariants.{Mode0, Mode1, Mode2}
use Rattle.z80_decode.specs.declared.pair.Pair.{Pair}
use Rattle.z80_decode.specs.declared.pair.Pair.TheVariants as pairs
use Rattle.z80_decode.specs.declared.place8.Place8.{Place8}
use Rattle.z80_decode.specs.declared.place8.Place8.TheVariants as places
use Rattle.z80_decode.specs.declared.special.Special.{Special}
use Rattle.z80_decode.specs.declared.special.Special.TheVariants.{Interrupt, Refresh}
use Rattle.md_disasm.specs.Digits.{two_digits, four_digits, marked_byte, marked_word}
use Rattle.md_disasm.specs.Operands80.{pair_name, special_name, condition_name, bit_name, mode_name, place_text, operand_text}
use Rattle.md_disasm.specs.declared.operand80.Operand80.{Operand80}
use Rattle.md_disasm.specs.declared.operand80.Operand80.TheVariants as operands
use Rattle.md_asm_text.specs.Operands.{operands_of as parted}
use Rattle.md_asm_text.specs.Tokens as tokens
use Rattle.md_asm_text.specs.Tokens.{Token, is_worded, is_name, split, token_of}
use Rattle.md_asm_text.proofs.Splits.{is_end, number_2, number_4, mark_split, word_split, following, apart}
use Rattle.asm_z80.specs.Forms.{Form, Nothing, AtWord, Displaced, Bare, AtNumber, Worded}
use Rattle.asm_z80.specs.Reading.{operand_form}

byte_fits : (n : ℕ) → nat_lt n 256 ≡ true → n < 256
byte_fits n h = grind (arith, nat_tests)

word_fits : (n : ℕ) → nat_lt n 65536 ≡ true → n < 65536
word_fits n h = grind (arith, nat_tests)

-- ---- the tokens of operands, and their forms

abbrev pub in_brackets : List ℕ → List Token
in_brackets word = tokens.Mark 40 ∷ tokens.Word word ∷ tokens.Mark 41 ∷ []

abbrev pub at_number : ℕ → List Token
at_number n = tokens.Mark 40 ∷ tokens.Number n ∷ tokens.Mark 41 ∷ []

abbrev pub displaced : List ℕ → ℕ → List Token
displaced word by = tokens.Mark 40 ∷ tokens.Word word ∷ tokens.Mark 43 ∷ tokens.Number by ∷ tokens.Mark 41 ∷ []

abbrev pub place_tokens : Place8 → List Token
place_tokens places.AtBc = in_brackets (codes "bc")
place_tokens places.AtDe = in_brackets (codes "de")
place_tokens places.AtHl = in_brackets (codes "hl")
place_tokens (places.AtIx by) = displaced (codes "ix") by
place_tokens (places.AtIy by) = displaced (codes "iy") by
place_tokens (places.At address) = at_number address
place_tokens (places.Number n) = tokens.Number n ∷ []
place_tokens place = tokens.Word (place_text place) ∷ []

abbrev pub place_form : Place8 → Form
place_form places.AtBc = AtWord (codes "bc")
place_form places.AtDe = AtWord (codes "de")
place_form places.AtHl = AtWord (codes "hl")
place_form (places.AtIx by) = Displaced (codes "ix") by
place_form (places.AtIy by) = Displaced (codes "iy") by
place_form (places.At address) = AtNumber address
place_form (places.Number n) = Bare n
place_form place = Worded (place_text place)

-- its numbers fit
abbrev pub place_shown : Place8 → Bool
place_shown (places.AtIx by) = nat_lt by 256
place_shown (places.AtIy by) = nat_lt by 256
place_shown (places.At address) = nat_lt address 65536
place_shown (places.Number n) = nat_lt n 256
place_shown place = true

abbrev pub operand_tokens : Operand80 → List Token
operand_tokens operands.Nothing = []
operand_tokens (operands.Place place) = place_tokens place
operand_tokens (operands.Register pair) = tokens.Word (pair_name pair) ∷ []
operand_tokens (operands.AtRegister pair) = in_brackets (pair_name pair)
operand_tokens operands.OtherAf = tokens.Word (codes "af") ∷ tokens.Mark 39 ∷ []
operand_tokens (operands.Special special) = tokens.Word (special_name special) ∷ []
operand_tokens (operands.Condition condition) = tokens.Word (condition_name condition) ∷ []
operand_tokens (operands.Bit bit) = tokens.Word (bit_name bit) ∷ []
operand_tokens (operands.Mode mode) = tokens.Word (mode_name mode) ∷ []
operand_tokens (operands.Byte n) = tokens.Number n ∷ []
operand_tokens (operands.Port n) = at_number n
operand_tokens operands.PortC = in_brackets (codes "c")
operand_tokens (operands.Word n) = tokens.Number n ∷ []
operand_tokens (operands.AtWord address) = at_number address
operand_tokens (operands.ByteAndWord byte word) = []

abbrev pub form_of : Operand80 → Form
form_of operands.Nothing = Nothing
form_of (operands.Place place) = place_form place
form_of (operands.Register pair) = Worded (pair_name pair)
form_of (operands.AtRegister pair) = AtWord (pair_name pair)
form_of operands.OtherAf = Worded (codes "af")
form_of (operands.Special special) = Worded (special_name special)
form_of (operands.Condition condition) = Worded (condition_name condition)
form_of (operands.Bit bit) = Worded (bit_name bit)
form_of (operands.Mode mode) = Worded (mode_name mode)
form_of (operands.Byte n) = Bare n
form_of (operands.Port n) = AtNumber n
form_of operands.PortC = AtWord (codes "c")
form_of (operands.Word n) = Bare n
form_of (operands.AtWord address) = AtNumber address
form_of (operands.ByteAndWord byte word) = Nothing

-- what is no instruction alone has three bytes
abbrev pub shown : Operand80 → Bool
shown (operands.Place place) = place_shown place
shown (operands.Byte n) = nat_lt n 256
shown (operands.Port n) = nat_lt n 256
shown (operands.Word n) = nat_lt n 65536
shown (operands.AtWord address) = nat_lt address 65536
shown (operands.ByteAndWord byte word) = false
shown operand = true

-- ---- texts fall into these tokens

bracket_split : (word : List ℕ) (e : List ℕ) → split [] (word ++ (41 ∷ e)) ≡ tokens.Word word ∷ split [] (41 ∷ e) → split [] (40 ∷ (word ++ (41 ∷ e))) ≡ in_brackets word ++ split [] e
unfolding is_worded
bracket_split word e is = mark_split 40 (word ++ (41 ∷ e)) refl ∙ following _ _ _ (is ∙ following _ _ _ (mark_split 41 e refl))

at_word_split : (n : ℕ) (e : List ℕ) → n < 65536 → split [] (marked_word (codes "($") n (codes ")") ++ e) ≡ at_number n ++ split [] e
unfolding is_worded marked_word
at_word_split n e h =
    ap (split []) (apart (codes "($") (four_digits n) (codes ")") e) ∙ mark_split 40 (36 ∷ (four_digits n ++ (41 ∷ e))) refl
    ∙ following _ _ _ (number_4 n (41 ∷ e) h refl ∙ following _ _ _ (mark_split 41 e refl))

at_byte_split : (n : ℕ) (e : List ℕ) → n < 256 → split [] (marked_byte (codes "($") n (codes ")") ++ e) ≡ at_number n ++ split [] e
unfolding is_worded marked_byte
at_byte_split n e h =
    ap (split []) (apart (codes "($") (two_digits n) (codes ")") e) ∙ mark_split 40 (36 ∷ (two_digits n ++ (41 ∷ e))) refl
    ∙ following _ _ _ (number_2 n (41 ∷ e) h refl ∙ following _ _ _ (mark_split 41 e refl))

byte_split : (n : ℕ) (e : List ℕ) → n < 256 → is_end e ≡ true → split [] (marked_byte (codes "$") n [] ++ e) ≡ tokens.Number n ∷ split [] e
unfolding marked_byte
byte_split n e h ends = ap (split []) (apart (codes "$") (two_digits n) [] e) ∙ number_2 n e h ends

ix_split : (by : ℕ) (e : List ℕ) → by < 256 → split [] (marked_byte (codes "(ix+$") by (codes ")") ++ e) ≡ displaced (codes "ix") by ++ split [] e
unfolding is_worded token_of is_name marked_byte
ix_split by e h =
    ap (split []) (apart (codes "(ix+$") (two_digits by) (codes ")") e) ∙ mark_split 40 (105 ∷ 120 ∷ 43 ∷ 36 ∷ (two_digits by ++ (41 ∷ e))) refl
    ∙ following _ _ _ (word_split (codes "ix") (43 ∷ 36 ∷ (two_digits by ++ (41 ∷ e))) refl refl
    ∙ following _ _ _ (mark_split 43 (36 ∷ (two_digits by ++ (41 ∷ e))) refl ∙ following _ _ _ (number_2 by (41 ∷ e) h refl ∙ following _ _ _ (mark_split 41 e refl))))

iy_split : (by : ℕ) (e : List ℕ) → by < 256 → split [] (marked_byte (codes "(iy+$") by (codes ")") ++ e) ≡ displaced (codes "iy") by ++ split [] e
unfolding is_worded token_of is_name marked_byte
iy_split by e h =
    ap (split []) (apart (codes "(iy+$") (two_digits by) (codes ")") e) ∙ mark_split 40 (105 ∷ 121 ∷ 43 ∷ 36 ∷ (two_digits by ++ (41 ∷ e))) refl
    ∙ following _ _ _ (word_split (codes "iy") (43 ∷ 36 ∷ (two_digits by ++ (41 ∷ e))) refl refl
    ∙ following _ _ _ (mark_split 43 (36 ∷ (two_digits by ++ (41 ∷ e))) refl ∙ following _ _ _ (number_2 by (41 ∷ e) h refl ∙ following _ _ _ (mark_split 41 e refl))))

place_split : (place : Place8) (e : List ℕ) → place_shown place ≡ true → is_end e ≡ true → split [] (place_text place ++ e) ≡ place_tokens place ++ split [] e
unfolding is_worded token_of is_name
place_split places.A e h ends = word_split (codes "a") e refl ends
place_split places.B e h ends = word_split (codes "b") e refl ends
place_split places.C e h ends = word_split (codes "c") e refl ends
place_split places.D e h ends = word_split (codes "d") e refl ends
place_split places.E e h ends = word_split (codes "e") e refl ends
place_split places.H e h ends = word_split (codes "h") e refl ends
place_split places.L e h ends = word_split (codes "l") e refl ends
place_split places.Ixh e h ends = word_split (codes "ixh") e refl ends
place_split places.Ixl e h ends = word_split (codes "ixl") e refl ends
place_split places.Iyh e h ends = word_split (codes "iyh") e refl ends
place_split places.Iyl e h ends = word_split (codes "iyl") e refl ends
place_split places.AtBc e h ends = bracket_split (codes "bc") e (word_split (codes "bc") (41 ∷ e) refl refl)
place_split places.AtDe e h ends = bracket_split (codes "de") e (word_split (codes "de") (41 ∷ e) refl refl)
place_split places.AtHl e h ends = bracket_split (codes "hl") e (word_split (codes "hl") (41 ∷ e) refl refl)
place_split (places.AtIx by) e h ends = ix_split by e (byte_fits by h)
place_split (places.AtIy by) e h ends = iy_split by e (byte_fits by h)
place_split (places.At address) e h ends = at_word_split address e (word_fits address h)
place_split (places.Number n) e h ends = byte_split n e (byte_fits n h) ends

place_read : (place : Place8) → operand_form (place_tokens place) ≡ place_form place
place_read places.A = refl
place_read places.B = refl
place_read places.C = refl
place_read places.D = refl
place_read places.E = refl
place_read places.H = refl
place_read places.L = refl
place_read places.Ixh = refl
place_read places.Ixl = refl
place_read places.Iyh = refl
place_read places.Iyl = refl
place_read places.AtBc = refl
place_read places.AtDe = refl
place_read places.AtHl = refl
place_read (places.AtIx n) = refl
place_read (places.AtIy n) = refl
place_read (places.At n) = refl
place_read (places.Number n) = refl

pair_split : (pair : Pair) (e : List ℕ) → is_end e ≡ true → split [] (pair_name pair ++ e) ≡ tokens.Word (pair_name pair) ∷ split [] e
unfolding is_worded token_of is_name
pair_split pairs.Bc e ends = word_split (codes "bc") e refl ends
pair_split pairs.De e ends = word_split (codes "de") e refl ends
pair_split pairs.Hl e ends = word_split (codes "hl") e refl ends
pair_split pairs.Sp e ends = word_split (codes "sp") e refl ends
pair_split pairs.Af e ends = word_split (codes "af") e refl ends
pair_split pairs.Ix e ends = word_split (codes "ix") e refl ends
pair_split pairs.Iy e ends = word_split (codes "iy") e refl ends

at_pair_split : (pair : Pair) (e : List ℕ) → split [] ((codes "(" ++ pair_name pair ++ codes ")") ++ e) ≡ in_brackets (pair_name pair) ++ split [] e
unfolding is_worded
at_pair_split pair e =
    ap (split []) (apart (codes "(") (pair_name pair) (codes ")") e) ∙ bracket_split (pair_name pair) e (pair_split pair (41 ∷ e) refl)

special_split : (special : Special) (e : List ℕ) → is_end e ≡ true → split [] (special_name special ++ e) ≡ tokens.Word (special_name special) ∷ split [] e
unfolding is_worded token_of is_name
special_split Interrupt e ends = word_split (codes "i") e refl ends
special_split Refresh e ends = word_split (codes "r") e refl ends

condition_split : (condition : Condition) (e : List ℕ) → is_end e ≡ true → split [] (condition_name condition ++ e) ≡ tokens.Word (condition_name condition) ∷ split [] e
unfolding is_worded token_of is_name
condition_split NonZero e ends = word_split (codes "nz") e refl ends
condition_split Zero e ends = word_split (codes "z") e refl ends
condition_split NonCarry e ends = word_split (codes "nc") e refl ends
condition_split Carry e ends = word_split (codes "c") e refl ends
condition_split ParityOdd e ends = word_split (codes "po") e refl ends
condition_split ParityEven e ends = word_split (codes "pe") e refl ends
condition_split Positive e ends = word_split (codes "p") e refl ends
condition_split Negative e ends = word_split (codes "m") e refl ends

bit_split : (bit : Bit) (e : List ℕ) → is_end e ≡ true → split [] (bit_name bit ++ e) ≡ tokens.Word (bit_name bit) ∷ split [] e
unfolding is_worded token_of is_name
bit_split Bit0 e ends = word_split (codes "0") e refl ends
bit_split Bit1 e ends = word_split (codes "1") e refl ends
bit_split Bit2 e ends = word_split (codes "2") e refl ends
bit_split Bit3 e ends = word_split (codes "3") e refl ends
bit_split Bit4 e ends = word_split (codes "4") e refl ends
bit_split Bit5 e ends = word_split (codes "5") e refl ends
bit_split Bit6 e ends = word_split (codes "6") e refl ends
bit_split Bit7 e ends = word_split (codes "7") e refl ends

mode_split : (mode : InterruptMode) (e : List ℕ) → is_end e ≡ true → split [] (mode_name mode ++ e) ≡ tokens.Word (mode_name mode) ∷ split [] e
unfolding is_worded token_of is_name
mode_split Mode0 e ends = word_split (codes "0") e refl ends
mode_split Mode1 e ends = word_split (codes "1") e refl ends
mode_split Mode2 e ends = word_split (codes "2") e refl ends

word_number_split : (n : ℕ) (e : List ℕ) → n < 65536 → is_end e ≡ true → split [] (marked_word (codes "$") n [] ++ e) ≡ tokens.Number n ∷ split [] e
unfolding marked_word
word_number_split n e h ends = ap (split []) (apart (codes "$") (four_digits n) [] e) ∙ number_4 n e h ends

other_split : (e : List ℕ) → split [] (codes "af'" ++ e) ≡ tokens.Word (codes "af") ∷ tokens.Mark 39 ∷ split [] e
unfolding is_worded token_of is_name
other_split e = word_split (codes "af") (39 ∷ e) refl refl ∙ following _ _ _ (mark_split 39 e refl)

pub operand_split : (o : Operand80) (e : List ℕ) → shown o ≡ true → is_end e ≡ true → split [] (operand_text o ++ e) ≡ operand_tokens o ++ split [] e
unfolding is_worded token_of is_name
operand_split operands.Nothing e h ends = refl
operand_split (operands.Place place) e h ends = place_split place e h ends
operand_split (operands.Register pair) e h ends = pair_split pair e ends
operand_split (operands.AtRegister pair) e h ends = at_pair_split pair e
operand_split operands.OtherAf e h ends = other_split e
operand_split (operands.Special special) e h ends = special_split special e ends
operand_split (operands.Condition condition) e h ends = condition_split condition e ends
operand_split (operands.Bit bit) e h ends = bit_split bit e ends
operand_split (operands.Mode mode) e h ends = mode_split mode e ends
operand_split (operands.Byte n) e h ends = byte_split n e (byte_fits n h) ends
operand_split (operands.Port n) e h ends = at_byte_split n e (byte_fits n h)
operand_split operands.PortC e h ends = bracket_split (codes "c") e (word_split (codes "c") (41 ∷ e) refl refl)
operand_split (operands.Word n) e h ends = word_number_split n e (word_fits n h) ends
operand_split (operands.AtWord address) e h ends = at_word_split address e (word_fits address h)
operand_split (operands.ByteAndWord byte word) e h ends = cc

pub operand_read : (o : Operand80) → operand_form (operand_tokens o) ≡ form_of o
operand_read operands.Nothing = refl
operand_read (operands.Place place) = place_read place
operand_read (operands.Register pair) = refl
operand_read (operands.AtRegister pair) = refl
operand_read operands.OtherAf = refl
operand_read (operands.Special special) = refl
operand_read (operands.Condition condition) = refl
operand_read (operands.Bit bit) = refl
operand_read (operands.Mode mode) = refl
operand_read (operands.Byte n) = refl
operand_read (operands.Port n) = refl
operand_read operands.PortC = refl
operand_read (operands.Word n) = refl
operand_read (operands.AtWord address) = refl
operand_read (operands.ByteAndWord byte word) = refl

-- ---- the comma between two operands

place_apart : (place : Place8) (rest : List Token) → parted false (place_tokens place ++ (tokens.Mark 44 ∷ rest)) ≡ (place_tokens place, rest)
unfolding parted
place_apart places.A rest = refl
place_apart places.B rest = refl
place_apart places.C rest = refl
place_apart places.D rest = refl
place_apart places.E rest = refl
place_apart places.H rest = refl
place_apart places.L rest = refl
place_apart places.Ixh rest = refl
place_apart places.Ixl rest = refl
place_apart places.Iyh rest = refl
place_apart places.Iyl rest = refl
place_apart places.AtBc rest = refl
place_apart places.AtDe rest = refl
place_apart places.AtHl rest = refl
place_apart (places.AtIx n) rest = refl
place_apart (places.AtIy n) rest = refl
place_apart (places.At n) rest = refl
place_apart (places.Number n) rest = refl

place_alone : (place : Place8) → parted false (place_tokens place) ≡ (place_tokens place, [])
unfolding parted
place_alone places.A = refl
place_alone places.B = refl
place_alone places.C = refl
place_alone places.D = refl
place_alone places.E = refl
place_alone places.H = refl
place_alone places.L = refl
place_alone places.Ixh = refl
place_alone places.Ixl = refl
place_alone places.Iyh = refl
place_alone places.Iyl = refl
place_alone places.AtBc = refl
place_alone places.AtDe = refl
place_alone places.AtHl = refl
place_alone (places.AtIx n) = refl
place_alone (places.AtIy n) = refl
place_alone (places.At n) = refl
place_alone (places.Number n) = refl

pub operand_apart : (o : Operand80) (rest : List Token) → parted false (operand_tokens o ++ (tokens.Mark 44 ∷ rest)) ≡ (operand_tokens o, rest)
unfolding parted
operand_apart operands.Nothing rest = refl
operand_apart (operands.Place place) rest = place_apart place rest
operand_apart (operands.Register pair) rest = refl
operand_apart (operands.AtRegister pair) rest = refl
operand_apart operands.OtherAf rest = refl
operand_apart (operands.Special special) rest = refl
operand_apart (operands.Condition condition) rest = refl
operand_apart (operands.Bit bit) rest = refl
operand_apart (operands.Mode mode) rest = refl
operand_apart (operands.Byte n) rest = refl
operand_apart (operands.Port n) rest = refl
operand_apart operands.PortC rest = refl
operand_apart (operands.Word n) rest = refl
operand_apart (operands.AtWord address) rest = refl
operand_apart (operands.ByteAndWord byte word) rest = refl

pub operand_alone : (o : Operand80) → parted false (operand_tokens o) ≡ (operand_tokens o, [])
unfolding parted
operand_alone operands.Nothing = refl
operand_alone (operands.Place place) = place_alone place
operand_alone (operands.Register pair) = refl
operand_alone (operands.AtRegister pair) = refl
operand_alone operands.OtherAf = refl
operand_alone (operands.Special special) = refl
operand_alone (operands.Condition condition) = refl
operand_alone (operands.Bit bit) = refl
operand_alone (operands.Mode mode) = refl
operand_alone (operands.Byte n) = refl
operand_alone (operands.Port n) = refl
operand_alone operands.PortC = refl
operand_alone (operands.Word n) = refl
operand_alone (operands.AtWord address) = refl
operand_alone (operands.ByteAndWord byte word) = refl
