-- A text determines what it is the text of: the digits of a number, and an operand of 8 bits of the Z80.
use Rattle.std.proofs.Common.{◌≡◌, ℕ, ◌+◌, ◌-◌, ◌*◌, ◌/◌, ◌%◌, ◌^◌, ◌<◌, ◌==◌, Bool, true, List, nat_lt, if◌then◌else◌, refl, sym, ap, ◌∙◌, arith, ap₂}
use Rattle.std.specs.Prelude.{slice_index_or, false}
use Rattle.std.specs.Fmt.{digit_glyph}
use Rattle.std.proofs.lemmas.Bool.Decides.{nat_tests}
use Rattle.z80_decode.specs.declared.place8.Place8.{Place8}
use Rattle.z80_decode.specs.declared.place8.Place8.TheVariants as places
use Rattle.md_disasm.specs.Digits.{one_digit, two_digits, four_digits, eight_digits, marked_byte, marked_word}
use Rattle.md_disasm.specs.Operands80.{place_text}
use Rattle.md_disasm.specs.Reported.{IsByteOrWord}

-- ---- digits

-- the digit of a glyph
abbrev value : ℕ → ℕ
value glyph = if nat_lt glyph 58 then glyph - 48 else glyph - 87

value-glyph : (d : ℕ) → d < 16 → value (digit_glyph false d) ≡ d
value-glyph d few = reported (nat_lt d 10) refl
  where
    reported : (b : Bool) → nat_lt d 10 ≡ b → value (if b then 48 + d else (if false then 55 + d else 87 + d)) ≡ d
    reported true is = grind (arith, nat_tests)
    reported false is = grind (arith, nat_tests)

value-last : (n : ℕ) → value (digit_glyph false (n % 16)) ≡ n % 16
value-last n = value-glyph (n % 16) (omega arith)

-- the digit at a place of a text
abbrev digit_at : ℕ → List ℕ → ℕ
digit_at place text = value (slice_index_or text place 0)

-- the number of two digits from a place on
abbrev byte_at : ℕ → List ℕ → ℕ
byte_at place text = digit_at place text * 16 + digit_at (place + 1) text

-- the number of four
abbrev word_at : ℕ → List ℕ → ℕ
word_at place text = byte_at place text * 256 + byte_at (place + 2) text

-- two digits give back the byte
pair : (n : ℕ) → value (digit_glyph false (n / 16 % 16)) * 16 + value (digit_glyph false (n % 16)) ≡ n % 256
pair n =
    let high = value-last (n / 16) in
    let low = value-last n in
    omega (arith, high, low)

byte-read : (n : ℕ) → byte_at 0 (two_digits n) ≡ n % 256
unfolding one_digit two_digits
byte-read n = pair n

word-read : (n : ℕ) → word_at 0 (four_digits n) ≡ n % 65536
unfolding one_digit two_digits four_digits
word-read n =
    let high : byte_at 0 (two_digits (n / 256)) ≡ n / 256 % 256 = pair (n / 256) in
    let low : byte_at 0 (two_digits (n % 256)) ≡ n % 256 % 256 = pair (n % 256) in
    let both : (n / 256 % 256) * 256 + n % 256 % 256 ≡ n % 65536 = omega arith in
    ap₂ (λ x y. x * 256 + y) high low ∙ both

long-read : (n : ℕ) → word_at 0 (eight_digits n) * 65536 + word_at 4 (eight_digits n) ≡ n % 4294967296
unfolding one_digit two_digits four_digits eight_digits
long-read n =
    let first : word_at 0 (four_digits (n / 65536)) ≡ n / 65536 % 65536 = word-read (n / 65536) in
    let second : word_at 0 (four_digits (n % 65536)) ≡ n % 65536 % 65536 = word-read (n % 65536) in
    let both : (n / 65536 % 65536) * 65536 + n % 65536 % 65536 ≡ n % 4294967296 = omega arith in
    ap₂ (λ x y. x * 65536 + y) first second ∙ both

pub byte-reported : (a b : ℕ) → a < 2 ^ 8 → b < 2 ^ 8 → two_digits a ≡ two_digits b → a ≡ b
byte-reported a b la lb same =
    let read = ap (byte_at 0) same in
    let one = byte-read a in
    let two = byte-read b in
    omega (arith, read, one, two)

pub word-reported : (a b : ℕ) → a < 2 ^ 16 → b < 2 ^ 16 → four_digits a ≡ four_digits b → a ≡ b
word-reported a b la lb same =
    let read = ap (word_at 0) same in
    let one = word-read a in
    let two = word-read b in
    omega (arith, read, one, two)

pub long-reported : (a b : ℕ) → a < 2 ^ 32 → b < 2 ^ 32 → eight_digits a ≡ eight_digits b → a ≡ b
long-reported a b la lb same =
    let read = ap (λ text. word_at 0 text * 65536 + word_at 4 text) same in
    let one = long-read a in
    let two = long-read b in
    omega (arith, read, one, two)

-- ---- operands of 8 bits

-- what a text of a place is the text of, by its characters
abbrev at_index : List ℕ → Place8
at_index text = if slice_index_or text 2 0 == 120 then places.AtIx (byte_at 5 text) else places.AtIy (byte_at 5 text)

abbrev in_brackets : List ℕ → Place8
in_brackets text =
    let second = slice_index_or text 1 0 in
    if second == 98 then places.AtBc else (if second == 100 then places.AtDe else (if second == 104 then places.AtHl else (
    if second == 36 then places.At (word_at 2 text) else at_index text)))

abbrev half_of : List ℕ → Place8
half_of text =
    let third = slice_index_or text 2 0 in
    if slice_index_or text 1 0 == 120
    then (if third == 104 then places.Ixh else places.Ixl)
    else (if third == 104 then places.Iyh else places.Iyl)

abbrev place_read : List ℕ → Place8
place_read text =
    let first = slice_index_or text 0 0 in
    if first == 97 then places.A else (if first == 98 then places.B else (if first == 99 then places.C else (
    if first == 100 then places.D else (if first == 101 then places.E else (if first == 104 then places.H else (
    if first == 108 then places.L else (if first == 105 then half_of text else (
    if first == 36 then places.Number (byte_at 1 text) else in_brackets text))))))))

small : (n : ℕ) → n < 2 ^ 8 → value (digit_glyph false (n / 16 % 16)) * 16 + value (digit_glyph false (n % 16)) ≡ n
small n few = let read = pair n in omega (arith, read)

short : (n : ℕ) → n < 2 ^ 16
    → (value (digit_glyph false (n / 256 / 16 % 16)) * 16 + value (digit_glyph false (n / 256 % 16))) * 256
    + (value (digit_glyph false (n % 256 / 16 % 16)) * 16 + value (digit_glyph false (n % 256 % 16))) ≡ n
short n few =
    let high = pair (n / 256) in
    let low = pair (n % 256) in
    omega (arith, high, low)

read-back : (place : Place8) → IsByteOrWord place → place_read (place_text place) ≡ place
unfolding one_digit two_digits four_digits marked_byte marked_word
read-back places.A ok = refl
read-back places.B ok = refl
read-back places.C ok = refl
read-back places.D ok = refl
read-back places.E ok = refl
read-back places.H ok = refl
read-back places.L ok = refl
read-back places.Ixh ok = refl
read-back places.Ixl ok = refl
read-back places.Iyh ok = refl
read-back places.Iyl ok = refl
read-back places.AtBc ok = refl
read-back places.AtDe ok = refl
read-back places.AtHl ok = refl
read-back (places.AtIx displacement) ok = ap places.AtIx (small displacement ok)
read-back (places.AtIy displacement) ok = ap places.AtIy (small displacement ok)
read-back (places.At address) ok = ap places.At (short address ok)
read-back (places.Number n) ok = ap places.Number (small n ok)

pub place-reported : (p q : Place8) → IsByteOrWord p → IsByteOrWord q → place_text p ≡ place_text q → p ≡ q
place-reported p q first second same = sym (read-back p first) ∙ ap place_read same ∙ read-back q second
