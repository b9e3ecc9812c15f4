-- The addresses of a script's line. This project's profile.
use Rattle.std.specs.Prelude.{ℕ, List, Option}
use Rattle.text_lines.specs.Digits.{hexadecimal_of, is_lower_hexadecimal}

-- 1 to 8 hexadecimal digits in lower case, which are a number below 2^32
abbrev pub address_of : List ℕ → Option ℕ
address_of word = hexadecimal_of is_lower_hexadecimal 8 32 word
