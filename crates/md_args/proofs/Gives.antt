-- What one more word gives.
use Rattle.std.proofs.Common.{◌≡◌, refl, true, false, codes, List, [], ◌∷◌, Option, Some, None}
use Rattle.std.specs.List.{list_any}
use Rattle.std.specs.Str.{bytes_eq}
use Rattle.clap.specs.Lexer.{long_of}
use Rattle.clap.specs.Walk.{Text}
use Rattle.md_args.specs.Given.{between, ended, given, has_name, is_marked, value_of, with_value}

module _ (options flags left : List Text) (word : Text) (words : List Text) where
  pub given_end : bytes_eq word (codes "--") ≡ true → given left options flags ended words ≡ given left options flags between (word ∷ words)
  given_end is = rw (is) refl

  pub given_option : (name value : Text) → bytes_eq word (codes "--") ≡ false → is_marked word ≡ true → long_of word ≡ Some (name, Some value) → list_any (has_name name) options ≡ true
      → with_value name value (given left options flags between words) ≡ given left options flags between (word ∷ words)
  given_option name value no_end marked long listed = rw (no_end, marked, long, listed) refl

  pub given_open : (name : Text) → bytes_eq word (codes "--") ≡ false → is_marked word ≡ true → long_of word ≡ Some (name, None) → list_any (has_name name) options ≡ true
      → given left options flags (value_of name) words ≡ given left options flags between (word ∷ words)
  given_open name no_end marked long listed = rw (no_end, marked, long, listed) refl

  pub given_flag : (name : Text) → bytes_eq word (codes "--") ≡ false → is_marked word ≡ true → long_of word ≡ Some (name, None) → list_any (has_name name) options ≡ false
      → list_any (has_name name) flags ≡ true → with_value name [] (given left options flags between words) ≡ given left options flags between (word ∷ words)
  given_flag name no_end marked long other listed = rw (no_end, marked, long, other, listed) refl

  pub given_flag_value : (name value : Text) → bytes_eq word (codes "--") ≡ false → is_marked word ≡ true → long_of word ≡ Some (name, Some value)
      → list_any (has_name name) options ≡ false → None ≡ given left options flags between (word ∷ words)
  given_flag_value name value no_end marked long other = rw (no_end, marked, long, other) refl

  pub given_unknown : (name : Text) (value : Option Text) → bytes_eq word (codes "--") ≡ false → is_marked word ≡ true → long_of word ≡ Some (name, value)
      → list_any (has_name name) options ≡ false → list_any (has_name name) flags ≡ false → None ≡ given left options flags between (word ∷ words)
  given_unknown name None no_end marked long other unlisted = rw (no_end, marked, long, other, unlisted) refl
  given_unknown name (Some value) no_end marked long other unlisted = rw (no_end, marked, long, other) refl

  pub given_short : bytes_eq word (codes "--") ≡ false → is_marked word ≡ true → long_of word ≡ None → None ≡ given left options flags between (word ∷ words)
  given_short no_end marked long = rw (no_end, marked, long) refl

  pub given_word : (name : Text) → bytes_eq word (codes "--") ≡ false → is_marked word ≡ false
      → with_value name word (given left options flags between words) ≡ given (name ∷ left) options flags between (word ∷ words)
  given_word name no_end unmarked = rw (no_end, unmarked) refl

  pub given_stray : bytes_eq word (codes "--") ≡ false → is_marked word ≡ false → None ≡ given [] options flags between (word ∷ words)
  given_stray no_end unmarked = rw (no_end, unmarked) refl

  pub given_value : (name : Text) → is_marked word ≡ false → with_value name word (given left options flags between words) ≡ given left options flags (value_of name) (word ∷ words)
  given_value name unmarked = rw (unmarked) refl

  pub given_no_value : (name : Text) → is_marked word ≡ true → None ≡ given left options flags (value_of name) (word ∷ words)
  given_no_value name marked = rw (marked) refl
