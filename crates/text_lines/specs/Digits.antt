-- Words of digits. This project's profile.
use Rattle.std.specs.Prelude.{ℕ, ◌^◌, ◌&&◌, ◌||◌, nat_lt, nat_le, Bool, if◌then◌else◌, List, length, Option, Some, None}
use Rattle.std.specs.Char.{is_ascii_digit}
use Rattle.std.specs.List.{list_all}
use Rattle.std.specs.Str.Parse.{digits_value}

-- one of 0 to 9 and a to f
abbrev pub is_lower_hexadecimal : ℕ → Bool
is_lower_hexadecimal c = is_ascii_digit c || (nat_le 97 c && nat_le c 102)

-- one of 0 to 9, a to f and A to F
abbrev pub is_hexadecimal : ℕ → Bool
is_hexadecimal c = is_ascii_digit c || (nat_le 97 c && nat_le c 102) || (nat_le 65 c && nat_le c 70)

-- one to so many digits of a kind
abbrev pub are_digits : (ℕ → Bool) → ℕ → List ℕ → Bool
are_digits is most word = nat_le 1 (length word) && nat_le (length word) most && list_all is word

-- 1 to 20 decimal digits
abbrev pub is_decimal : List ℕ → Bool
is_decimal word = are_digits is_ascii_digit 20 word

-- .. with a value below 2^64
abbrev pub decimal_of : List ℕ → Option ℕ
decimal_of word = if is_decimal word && nat_lt (digits_value 10 word) (2 ^ 64) then Some (digits_value 10 word) else None

-- one to so many hexadecimal digits of a kind, with a value of so many bits
abbrev pub hexadecimal_of : (ℕ → Bool) → ℕ → ℕ → List ℕ → Option ℕ
hexadecimal_of is most bits word = if are_digits is most word && nat_lt (digits_value 16 word) (2 ^ bits) then Some (digits_value 16 word) else None
