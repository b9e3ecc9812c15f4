-- What a word looks like, by its first letters.
use Rattle.std.proofs.Common.{◌≡◌, ◌∙◌, refl, sym, ap, ℕ, Bool, true, false, ◌==◌, List, [], ◌∷◌, ◌++◌, Some, None}
use Rattle.std.proofs.Math.Bool.{and-false}
use Rattle.std.specs.Prelude.{slice_get}
use Rattle.std.specs.Char.{encode_utf8}
use Rattle.std.specs.Str.{IsUtf8, bytes_eq, chars, encode_utf8_all}
use Rattle.std.proofs.lemmas.Bool.{eqb-true, true≢false}
use Rattle.std.proofs.lemmas.Str.{IsUtf8-past_char, encodes-chars}
use Rattle.clap.specs.Lexer.{long_of, name_and_value, short_of}
use Rattle.clap.specs.Walk.{Text}
use Rattle.md_args.specs.Given.{is_marked}
use Rattle.md_args.proofs.Lookups.{some≢none}

-- a word that does not look like an option is none to `clap`
pub record IsPlain (word : Text) : Type 0 where
  pub no_end : bytes_eq word (45 ∷ 45 ∷ []) ≡ false
  pub no_long : long_of word ≡ None
  pub no_short : short_of word ≡ None

one_letter : (letter : ℕ) (b : Bool) → (letter == 45) ≡ b → IsPlain (letter ∷ [])
one_letter letter true is = record { no_end = and-false _; no_long = rw (is) refl; no_short = rw (is) refl }
one_letter letter false is = record { no_end = and-false _; no_long = rw (is) refl; no_short = rw (is) refl }

pub plain_word : (word : Text) → is_marked word ≡ false → IsPlain word
plain_word [] unmarked = record { no_end = refl; no_long = refl; no_short = refl }
plain_word (letter ∷ []) unmarked = one_letter letter (letter == 45) refl
plain_word (first ∷ second ∷ rest) unmarked = record { no_end = rw (unmarked) refl; no_long = rw (unmarked) refl; no_short = rw (unmarked) refl }

hyphen_is : encode_utf8 45 ≡ 45 ∷ []
unfolding encode_utf8
hyphen_is = refl

-- a word with one hyphen in front of a letter
pub record IsShort (word : Text) : Type 0 where
  pub first : ℕ
  pub rest : List ℕ
  pub letter : ℕ
  pub short : short_of word ≡ Some (first ∷ rest)
  pub begins : slice_get (chars (first ∷ rest)) 0 ≡ Some letter

begins_with : (first : ℕ) (rest : List ℕ) → IsUtf8 (first ∷ rest) → (letter : ℕ) × (slice_get (chars (first ∷ rest)) 0 ≡ Some letter)
begins_with first rest text = go (chars (first ∷ rest)) (encodes-chars (first ∷ rest) text)
  where
    go : (letters : List ℕ) → encode_utf8_all letters ≡ first ∷ rest → (letter : ℕ) × (slice_get letters 0 ≡ Some letter)
    go [] is = absurd (cc)
    go (letter ∷ letters) is = (letter, refl)

pub short_word : (word : Text) → IsUtf8 word → is_marked word ≡ true → bytes_eq word (45 ∷ 45 ∷ []) ≡ false → long_of word ≡ None → IsShort word
short_word [] text marked no_end no_long = absurd (true≢false (sym marked))
short_word (letter ∷ []) text marked no_end no_long = absurd (true≢false (sym marked))
short_word (first ∷ second ∷ rest) text marked no_end no_long = go (second == 45) refl rest text no_end no_long
  where
    go : (b : Bool) → (second == 45) ≡ b → (more : List ℕ) → IsUtf8 (first ∷ second ∷ more) → bytes_eq (first ∷ second ∷ more) (45 ∷ 45 ∷ []) ≡ false
        → long_of (first ∷ second ∷ more) ≡ None → IsShort (first ∷ second ∷ more)
    go true is [] utf ended long = absurd (true≢false (rw (← ended, marked, is) refl))
    go true is (third ∷ more) utf ended long =
        let reads : long_of (first ∷ second ∷ third ∷ more) ≡ Some (name_and_value (third ∷ more)) = rw (marked, is) refl in
        absurd (some≢none _ (sym reads ∙ long))
    go false is more utf ended long =
        let following = IsUtf8-past_char (first ∷ second ∷ more) (second ∷ more) 45 utf (ap (λ n. n ∷ second ∷ more) (eqb-true first 45 marked) ∙ ap (λ hyphen. hyphen ++ second ∷ more) (sym hyphen_is)) in
        let begun = begins_with second more following in
        record { first = second; rest = more; letter = begun.0; short = rw (marked, is) refl; begins = begun.1 }
