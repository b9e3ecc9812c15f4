-- The numbers and names among the tokens of a line.
use Rattle.std.specs.Prelude.{ℕ, ◌+◌, ◌/◌, ◌%◌, Bool, true, false, ◌||◌, nat_le, if◌then◌else◌, List, [], ◌∷◌, ◌++◌, map, slice_set, Option, Some, None}
use Rattle.md_asm_text.specs.Tokens as tokens
use Rattle.md_asm_text.specs.Tokens.{Token}
use Rattle.md_asm_text.specs.Bodies.{is_value}

-- the value of each name that a line defines
abbrev pub Names : Type 0
Names = List ℕ → Option ℕ

abbrev pub valued : List ℕ → Option ℕ → Token
valued name None = tokens.Name name
valued name (Some value) = tokens.Number value

-- a name's value is in its place, where it has one
abbrev pub resolved_token : Names → Token → Token
resolved_token names (tokens.Name name) = valued name (names name)
resolved_token names token = token

abbrev pub resolved : Names → List Token → List Token
resolved names line_tokens = map (resolved_token names) line_tokens

abbrev pub is_name : Token → Bool
is_name (tokens.Name name) = true
is_name token = false

-- a name is left
unfoldable pub has_name : List Token → Bool
has_name [] = false
has_name (token ∷ more) = is_name token || has_name more

-- 8 in place of each number and name: it fits wherever one is
abbrev pub filled_token : Token → Token
filled_token (tokens.Name name) = tokens.Number 8
filled_token (tokens.Number n) = tokens.Number 8
filled_token token = token

abbrev pub filled : List Token → List Token
filled line_tokens = map filled_token line_tokens

-- 8 in place of each name alone
abbrev pub names_filled : List Token → List Token
names_filled line_tokens = resolved (λ name. Some 8) line_tokens

-- 8 for all but the number at one place
abbrev pub alone : List Token → ℕ → Token → List Token
alone line_tokens i number = slice_set (filled line_tokens) i number

-- how many numbers and names there are
unfoldable pub count : List Token → ℕ
count [] = 0
count (token ∷ more) = if is_value token then 1 + count more else count more

-- a number is not below a limit
abbrev pub is_over : ℕ → Token → Bool
is_over limit (tokens.Number n) = nat_le limit n
is_over limit token = false

unfoldable pub any_over : ℕ → List Token → Bool
any_over limit [] = false
any_over limit (token ∷ more) = is_over limit token || any_over limit more

-- the numbers as bytes
abbrev pub byte_of : Token → List ℕ
byte_of (tokens.Number n) = n % 256 ∷ []
byte_of token = []

unfoldable pub bytes_of : List Token → List ℕ
bytes_of [] = []
bytes_of (token ∷ more) = byte_of token ++ bytes_of more

-- the numbers as words, the high byte first
abbrev pub word_of : Token → List ℕ
word_of (tokens.Number n) = n / 256 % 256 ∷ n % 256 ∷ []
word_of token = []

unfoldable pub words_of : List Token → List ℕ
words_of [] = []
words_of (token ∷ more) = word_of token ++ words_of more
