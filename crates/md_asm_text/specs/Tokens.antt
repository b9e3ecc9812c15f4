-- The tokens of an instruction's text: words, numbers, names and single characters.
use Rattle.std.specs.Prelude.{ℕ, ◌+◌, ◌-◌, ◌*◌, Bool, true, false, ◌&&◌, ◌||◌, ◌==◌, not, nat_le, nat_lt, if◌then◌else◌, List, [], ◌∷◌, ◌++◌, length, codes}
use Rattle.std.specs.Str.{bytes_eq}
use Rattle.text_lines.specs.Digits.{is_hexadecimal}

-- a word is the longest run of letters, digits, underscores and dollar signs. A word that is a number
-- or a name is that token; every other one is itself
pub data Token : Type 0 where
  Word : List ℕ → Token
  Number : ℕ → Token
  Name : List ℕ → Token
  Mark : ℕ → Token

abbrev pub is_digit : ℕ → Bool
is_digit c = nat_le 48 c && nat_le c 57

abbrev pub is_letter : ℕ → Bool
is_letter c = (nat_le 97 c && nat_le c 122) || (nat_le 65 c && nat_le c 90)

-- a character of a name
abbrev pub is_named : ℕ → Bool
is_named c = is_letter c || is_digit c || c == 95

-- a character of a word
unfoldable pub is_worded : ℕ → Bool
is_worded c = is_named c || c == 36

-- the value of a hexadecimal digit
abbrev pub digit_value : ℕ → ℕ
digit_value c = if nat_lt c 58 then c - 48 else (if nat_lt c 71 then c - 55 else c - 87)

abbrev pub every : (ℕ → Bool) → List ℕ → Bool
every test [] = true
every test (c ∷ cs) = test c && every test cs

-- the value of digits, after those that have a value already
abbrev pub value_after : ℕ → List ℕ → ℕ
value_after before [] = before
value_after before (c ∷ cs) = value_after (before * 16 + digit_value c) cs

-- one to eight digits
abbrev pub are_digits : List ℕ → Bool
are_digits cs = every is_hexadecimal cs && nat_le 1 (length cs) && nat_le (length cs) 8

-- the words of instructions' texts that are no names
abbrev pub is_reserved : List ℕ → Bool
is_reserved word =
    bytes_eq word (codes "usp") || bytes_eq word (codes "ccr") || bytes_eq word (codes "ixh") || bytes_eq word (codes "ixl")
    || bytes_eq word (codes "iyh") || bytes_eq word (codes "iyl") || bytes_eq word (codes "none")

-- a name: a letter, then letters, digits and underscores, 3 to 32 in all
unfoldable pub is_name : List ℕ → Bool
is_name [] = false
is_name (c ∷ cs) = nat_le 2 (length cs) && nat_le (length cs) 31 && is_letter c && every is_named cs && not (is_reserved (c ∷ cs))

-- the token of a word that is no number
abbrev pub plain : List ℕ → Token
plain word = if is_name word then Name word else Word word

-- the token of a word
unfoldable pub token_of : List ℕ → Token
token_of [] = Word []
token_of (c ∷ cs) = if c == 36 && are_digits cs then Number (value_after 0 cs) else plain (c ∷ cs)

-- the token of a word, where there is one
abbrev pub closed : List ℕ → List Token
closed [] = []
closed (c ∷ cs) = token_of (c ∷ cs) ∷ []

-- the tokens of a text, after the characters of a word that continues
unfoldable pub split : List ℕ → List ℕ → List Token
split word [] = closed word
split word (c ∷ cs) = if is_worded c then split (word ++ c ∷ []) cs else closed word ++ (Mark c ∷ split [] cs)

-- an instruction begins with its name, which is no name of a place
unfoldable pub opened : List ℕ → List ℕ → List Token
opened word [] = Word word ∷ []
opened word (c ∷ cs) = if is_worded c then opened (word ++ c ∷ []) cs else Word word ∷ Mark c ∷ split [] cs

-- the tokens of an instruction's text
abbrev pub tokens : List ℕ → List Token
tokens text = opened [] text
