-- How texts fall into tokens: words, the numbers of md_disasm, and what is between them.
use Rattle.std.proofs.Common.{◌≡◌, ℕ, ◌+◌, ◌-◌, ◌*◌, ◌/◌, ◌%◌, ◌<◌, ◌==◌, Bool, true, false, not, List, [], ◌∷◌, ◌++◌, nat_lt, length, append_assoc, append-nil, refl, ap, ◌∙◌, sym, arith, if◌then◌else◌}
use Rattle.std.specs.Fmt.{digit_glyph}
use Rattle.std.proofs.lemmas.Bool.Decides.{nat_tests}
use Rattle.std.proofs.lemmas.Bool.{not-true, and_parts}
use Rattle.md_disasm.specs.Digits.{one_digit, two_digits, four_digits, eight_digits}
use Rattle.text_lines.specs.Digits.{is_hexadecimal}
use Rattle.md_asm_text.specs.Tokens.{Token, Word, Number, Mark, are_digits, closed, digit_value, every, is_name, is_worded, opened, split, token_of, value_after}

-- a text that does not go on with a word
abbrev pub is_end : List ℕ → Bool
is_end [] = true
is_end (c ∷ cs) = not (is_worded c)

-- a token before others, and three texts before a fourth
pub following : (p : Token) (xs ys : List Token) → xs ≡ ys → p ∷ xs ≡ p ∷ ys
following p xs ys e = ap (λ (l : List Token). p ∷ l) e

pub apart : (a b c e : List ℕ) → ((a ++ b) ++ c) ++ e ≡ a ++ (b ++ (c ++ e))
apart a b c e = append_assoc (a ++ b) c e ∙ append_assoc a b (c ++ e)

-- ---- one digit

hexadecimal-glyph : (d : ℕ) → d < 16 → is_hexadecimal (digit_glyph false d) ≡ true
hexadecimal-glyph d few = by_test (nat_lt d 10) refl
  where
    by_test : (b : Bool) → nat_lt d 10 ≡ b → is_hexadecimal (if b then 48 + d else (if false then 55 + d else 87 + d)) ≡ true
    by_test true is = grind (arith, nat_tests)
    by_test false is = grind (arith, nat_tests)

value-glyph : (d : ℕ) → d < 16 → digit_value (digit_glyph false d) ≡ d
value-glyph d few = by_test (nat_lt d 10) refl
  where
    by_test : (b : Bool) → nat_lt d 10 ≡ b → digit_value (if b then 48 + d else (if false then 55 + d else 87 + d)) ≡ d
    by_test true is = grind (arith, nat_tests)
    by_test false is = grind (arith, nat_tests)

worded-hexadecimal : (c : ℕ) → is_hexadecimal c ≡ true → is_worded c ≡ true
unfolding is_worded
worded-hexadecimal c is = grind (arith, nat_tests)

pub hexadecimal : (n : ℕ) → is_hexadecimal (digit_glyph false (n % 16)) ≡ true
hexadecimal n = hexadecimal-glyph (n % 16) (omega arith)

pub value : (n : ℕ) → digit_value (digit_glyph false (n % 16)) ≡ n % 16
value n = value-glyph (n % 16) (omega arith)

pub worded : (n : ℕ) → is_worded (digit_glyph false (n % 16)) ≡ true
worded n = worded-hexadecimal (digit_glyph false (n % 16)) (hexadecimal n)

-- ---- words

word_on : (word : List ℕ) (c : ℕ) (cs : List ℕ) → is_worded c ≡ true → split word (c ∷ cs) ≡ split (word ++ c ∷ []) cs
unfolding split
word_on word c cs is = rw is refl

mark_on : (word : List ℕ) (c : ℕ) (cs : List ℕ) → is_worded c ≡ false → split word (c ∷ cs) ≡ closed word ++ split [] (c ∷ cs)
unfolding split
mark_on word c cs is = rw is refl

-- a word ends where the text does not go on with it
pub word_ends : (word e : List ℕ) → is_end e ≡ true → split word e ≡ closed word ++ split [] e
unfolding split
word_ends word [] is = sym (append-nil (closed word))
word_ends word (c ∷ cs) is = mark_on word c cs (not-true (is_worded c) is)

-- characters of a word are taken together
pub words_on : (more word rest : List ℕ) → every is_worded more ≡ true → split word (more ++ rest) ≡ split (word ++ more) rest
words_on [] word rest is = ap (λ (l : List ℕ). split l rest) (sym (append-nil word))
words_on (c ∷ cs) word rest is =
    let parts = and_parts (is_worded c) (every is_worded cs) is in
    word_on word c (cs ++ rest) parts.0 ∙ words_on cs (word ++ c ∷ []) rest parts.1 ∙ ap (λ (l : List ℕ). split l rest) (append_assoc word (c ∷ []) cs)

-- a whole word
pub word_split : (word e : List ℕ) → every is_worded word ≡ true → is_end e ≡ true → split [] (word ++ e) ≡ closed word ++ split [] e
word_split word e all ends = words_on word [] e all ∙ word_ends word e ends

-- an instruction's name is a word, whatever it is
opened_on : (word : List ℕ) (c : ℕ) (cs : List ℕ) → is_worded c ≡ true → opened word (c ∷ cs) ≡ opened (word ++ c ∷ []) cs
unfolding opened
opened_on word c cs is = rw is refl

opened_ends : (word e : List ℕ) → is_end e ≡ true → opened word e ≡ Word word ∷ split [] e
unfolding opened split
opened_ends word [] is = refl
opened_ends word (c ∷ cs) is = rw (not-true (is_worded c) is) refl

openeds_on : (more word e : List ℕ) → every is_worded more ≡ true → is_end e ≡ true → opened word (more ++ e) ≡ Word (word ++ more) ∷ split [] e
openeds_on [] word e is ends = opened_ends word e ends ∙ ap (λ (l : List ℕ). Word l ∷ split [] e) (sym (append-nil word))
openeds_on (c ∷ cs) word e is ends =
    let parts = and_parts (is_worded c) (every is_worded cs) is in
    opened_on word c (cs ++ e) parts.0 ∙ openeds_on cs (word ++ c ∷ []) e parts.1 ends ∙ ap (λ (l : List ℕ). Word l ∷ split [] e) (append_assoc word (c ∷ []) cs)

pub name_opens : (name e : List ℕ) → every is_worded name ≡ true → is_end e ≡ true → opened [] (name ++ e) ≡ Word name ∷ split [] e
name_opens name e all ends = openeds_on name [] e all ends

-- ---- registers: a letter and a digit

pub register_split : (c n : ℕ) (e : List ℕ) → is_worded c ≡ true → (c == 36) ≡ false → is_end e ≡ true
    → split [] (c ∷ (one_digit n ++ e)) ≡ Word (c ∷ one_digit n) ∷ split [] e
unfolding one_digit token_of is_name
register_split c n e is dollar ends =
    word_on [] c (digit_glyph false (n % 16) ∷ e) is ∙ word_on (c ∷ []) (digit_glyph false (n % 16)) e (worded n)
    ∙ word_ends (c ∷ digit_glyph false (n % 16) ∷ []) e ends ∙ rw dollar refl

-- ---- numbers

-- digits with a value
record AreDigitsOf (count n : ℕ) (digits : List ℕ) : Type 0 where
  pub all : every is_hexadecimal digits ≡ true
  pub long : length digits ≡ count
  pub value : value_after 0 digits ≡ n

one_all : (n : ℕ) → every is_hexadecimal (one_digit n) ≡ true
unfolding one_digit
one_all n = rw (hexadecimal n) refl

pub every_both : (test : ℕ → Bool) (xs ys : List ℕ) → every test xs ≡ true → every test ys ≡ true → every test (xs ++ ys) ≡ true
every_both test [] ys h k = k
every_both test (x ∷ xs) ys h k =
    let parts = and_parts (test x) (every test xs) h in
    rw (parts.0, every_both test xs ys parts.1 k) refl

two_all : (n : ℕ) → every is_hexadecimal (two_digits n) ≡ true
unfolding two_digits
two_all n = every_both is_hexadecimal (one_digit (n / 16)) (one_digit n) (one_all (n / 16)) (one_all n)

four_all : (n : ℕ) → every is_hexadecimal (four_digits n) ≡ true
unfolding four_digits
four_all n = every_both is_hexadecimal (two_digits (n / 256)) (two_digits (n % 256)) (two_all (n / 256)) (two_all (n % 256))

eight_all : (n : ℕ) → every is_hexadecimal (eight_digits n) ≡ true
unfolding eight_digits
eight_all n = every_both is_hexadecimal (four_digits (n / 65536)) (four_digits (n % 65536)) (four_all (n / 65536)) (four_all (n % 65536))

value_both : (before : ℕ) (xs ys : List ℕ) → value_after before (xs ++ ys) ≡ value_after (value_after before xs) ys
value_both before [] ys = refl
value_both before (x ∷ xs) ys = value_both (before * 16 + digit_value x) xs ys

one_value : (before n : ℕ) → value_after before (one_digit n) ≡ before * 16 + n % 16
unfolding one_digit
one_value before n = let e = value n in omega (arith, e)

two_value : (before n : ℕ) → value_after before (two_digits n) ≡ before * 256 + n % 256
unfolding two_digits
two_value before n =
    value_both before (one_digit (n / 16)) (one_digit n)
    ∙ rw (one_value before (n / 16), one_value (before * 16 + n / 16 % 16) n) (omega arith)

four_value : (before n : ℕ) → value_after before (four_digits n) ≡ before * 65536 + n % 65536
unfolding four_digits
four_value before n =
    value_both before (two_digits (n / 256)) (two_digits (n % 256))
    ∙ rw (two_value before (n / 256), two_value (before * 256 + n / 256 % 256) (n % 256)) (omega arith)

eight_value : (before n : ℕ) → value_after before (eight_digits n) ≡ before * 4294967296 + n % 4294967296
unfolding eight_digits
eight_value before n =
    value_both before (four_digits (n / 65536)) (four_digits (n % 65536))
    ∙ rw (four_value before (n / 65536), four_value (before * 65536 + n / 65536 % 65536) (n % 65536)) (omega arith)

one_digits : (n : ℕ) → n < 16 → AreDigitsOf 1 n (one_digit n)
unfolding one_digit
one_digits n h = record { all = one_all n; long = refl; value = let e = one_value 0 n in omega (arith, e) }

two_count : (n : ℕ) → length (two_digits n) ≡ 2
unfolding two_digits one_digit
two_count n = refl

four_count : (n : ℕ) → length (four_digits n) ≡ 4
unfolding four_digits two_digits one_digit
four_count n = refl

eight_count : (n : ℕ) → length (eight_digits n) ≡ 8
unfolding eight_digits four_digits two_digits one_digit
eight_count n = refl

two_digits_are : (n : ℕ) → n < 256 → AreDigitsOf 2 n (two_digits n)
two_digits_are n h = record { all = two_all n; long = two_count n; value = let e = two_value 0 n in omega (arith, e) }

four_digits_are : (n : ℕ) → n < 65536 → AreDigitsOf 4 n (four_digits n)
four_digits_are n h = record { all = four_all n; long = four_count n; value = let e = four_value 0 n in omega (arith, e) }

eight_digits_are : (n : ℕ) → n < 4294967296 → AreDigitsOf 8 n (eight_digits n)
eight_digits_are n h = record { all = eight_all n; long = eight_count n; value = let e = eight_value 0 n in omega (arith, e) }

all_worded : (digits : List ℕ) → every is_hexadecimal digits ≡ true → every is_worded digits ≡ true
all_worded [] h = refl
all_worded (c ∷ cs) h =
    let parts = and_parts (is_hexadecimal c) (every is_hexadecimal cs) h in
    rw (worded-hexadecimal c parts.0, all_worded cs parts.1) refl

number_token : (count n : ℕ) (digits : List ℕ) → 0 < count → count < 9 → AreDigitsOf count n digits → token_of (36 ∷ digits) ≡ Number n
unfolding token_of
number_token count n digits some few are =
    let tested : are_digits digits ≡ true = rw (are.all, are.long) (grind (arith, nat_tests)) in
    rw (tested, are.value) refl

number_split : (count n : ℕ) (digits e : List ℕ) → 0 < count → count < 9 → AreDigitsOf count n digits → is_end e ≡ true
    → split [] (36 ∷ (digits ++ e)) ≡ Number n ∷ split [] e
unfolding is_worded
number_split count n digits e some few are ends =
    word_split (36 ∷ digits) e (all_worded digits are.all) ends ∙ ap (λ (p : Token). p ∷ split [] e) (number_token count n digits some few are)

-- the numbers of texts
pub number_1 : (n : ℕ) (e : List ℕ) → n < 16 → is_end e ≡ true → split [] (36 ∷ (one_digit n ++ e)) ≡ Number n ∷ split [] e
number_1 n e h ends = number_split 1 n (one_digit n) e (omega arith) (omega arith) (one_digits n h) ends

pub number_2 : (n : ℕ) (e : List ℕ) → n < 256 → is_end e ≡ true → split [] (36 ∷ (two_digits n ++ e)) ≡ Number n ∷ split [] e
number_2 n e h ends = number_split 2 n (two_digits n) e (omega arith) (omega arith) (two_digits_are n h) ends

pub number_4 : (n : ℕ) (e : List ℕ) → n < 65536 → is_end e ≡ true → split [] (36 ∷ (four_digits n ++ e)) ≡ Number n ∷ split [] e
number_4 n e h ends = number_split 4 n (four_digits n) e (omega arith) (omega arith) (four_digits_are n h) ends

pub number_8 : (n : ℕ) (e : List ℕ) → n < 4294967296 → is_end e ≡ true → split [] (36 ∷ (eight_digits n ++ e)) ≡ Number n ∷ split [] e
number_8 n e h ends = number_split 8 n (eight_digits n) e (omega arith) (omega arith) (eight_digits_are n h) ends

-- a character between words
pub mark_split : (c : ℕ) (cs : List ℕ) → is_worded c ≡ false → split [] (c ∷ cs) ≡ Mark c ∷ split [] cs
unfolding split
mark_split c cs is = rw is refl
