-- Arguments that are written as words are read back.
use Rattle.std.proofs.Common.{◌≡◌, ◌∙◌, refl, sym, ap, subst, arith, ℕ, suc, ◌+◌, ◌==◌, not, append_assoc, Bool, true, false, cond, ◌||◌, codes, List, [], ◌∷◌, ◌++◌, map, Some, None}
use Rattle.std.specs.List.{after_first, before_first, list_all, list_any, position_or_len}
use Rattle.std.specs.Option.{option_and_then}
use Rattle.std.specs.Str.{bytes_eq}
use Rattle.std.proofs.lemmas.Bool.{and_left, and_parts, and_right, not_from_true, or_right, true≢false, not-true}
use Rattle.std.proofs.lemmas.Slice.Eq.{bytes_eq-Decides}
use Rattle.clap.specs.Lexer.{has_byte, long_of, name_and_value}
use Rattle.clap.specs.Walk.{Text}
use Rattle.md_args.specs.Given.{Argument, are_single, between, given, has_name, with_value}
use Rattle.md_args.specs.Spelled.{AreWritten, Written, all_words, apart, argument_of, joined, raised, rom}
use Rattle.md_args.specs.Commands.{run_flags, run_of, run_of_arguments, run_options}
use Rattle.md_args.proofs.Gives.{given_flag, given_open, given_option, given_stray, given_value, given_word}
use Rattle.md_args.proofs.Looks.{plain_word}
use Rattle.md_args.proofs.Rows.{stands}

-- an option of this name is read as it is written
pub record IsReadable (name : Text) : Type 0 where
  pub apart_word : long_of (codes "--" ++ name) ≡ Some (name, None)
  pub joined_word : (value : Text) → long_of (codes "--" ++ name ++ codes "=" ++ value) ≡ Some (name, Some value)
  pub apart_no_end : bytes_eq (codes "--" ++ name) (codes "--") ≡ false
  pub joined_no_end : (value : Text) → bytes_eq (codes "--" ++ name ++ codes "=" ++ value) (codes "--") ≡ false

abbrev pub AreReadable : List Text → Type 0
AreReadable [] = Unit {0}
AreReadable (name ∷ names) = IsReadable name × AreReadable names

-- a name of at least one letter and no equals sign
abbrev pub has_no_equals : Text → Bool
has_no_equals = list_all (λ letter. not (letter == 61))

abbrev pub is_option_name : Text → Bool
is_option_name [] = false
is_option_name (letter ∷ name) = has_no_equals (letter ∷ name)

abbrev is_equals : ℕ → Bool
is_equals letter = letter == 61

one_before : (n : ℕ) → 1 + n ≡ suc n
one_before n = omega arith

no_equals : (name : Text) → has_no_equals name ≡ true → name_and_value name ≡ (name, None)
no_equals name none = rw (all_before name none, never name none) refl
  where
    all_before : (name : Text) → has_no_equals name ≡ true → before_first is_equals name ≡ name
    all_before [] none = refl
    all_before (letter ∷ name) none =
        let parts = and_parts (not (is_equals letter)) (has_no_equals name) none in
        rw (parts.0, one_before (position_or_len is_equals name)) (ap (λ rest. letter ∷ rest) (all_before name parts.1))

    never : (name : Text) → has_no_equals name ≡ true → has_byte 61 name ≡ false
    never [] none = refl
    never (letter ∷ name) none =
        let parts = and_parts (not (is_equals letter)) (has_no_equals name) none in
        rw (not-true (is_equals letter) parts.0) (never name parts.1)

one_equals : (name value : Text) → has_no_equals name ≡ true → name_and_value (name ++ 61 ∷ value) ≡ (name, Some value)
one_equals name value none = rw (before name none, has name, after name none) refl
  where
    before : (name : Text) → has_no_equals name ≡ true → before_first is_equals (name ++ 61 ∷ value) ≡ name
    before [] none = refl
    before (letter ∷ name) none =
        let parts = and_parts (not (is_equals letter)) (has_no_equals name) none in
        rw (parts.0, one_before (position_or_len is_equals (name ++ 61 ∷ value))) (ap (λ rest. letter ∷ rest) (before name parts.1))

    has : (name : Text) → has_byte 61 (name ++ 61 ∷ value) ≡ true
    has [] = refl
    has (letter ∷ name) = or_right _ _ (has name)

    after : (name : Text) → has_no_equals name ≡ true → after_first is_equals (name ++ 61 ∷ value) ≡ value
    after [] none = refl
    after (letter ∷ name) none =
        let parts = and_parts (not (is_equals letter)) (has_no_equals name) none in
        let place = position_or_len is_equals (name ++ 61 ∷ value) in
        let next : (1 + place) + 1 ≡ suc (place + 1) = omega arith in
        rw (parts.0, next) (after name parts.1)

readable_name : (name : Text) → is_option_name name ≡ true → IsReadable name
readable_name [] is = absurd (true≢false (sym is))
readable_name (letter ∷ name) is =
    record {
      apart_word = ap Some (no_equals (letter ∷ name) is);
      joined_word = λ value.
          ap (λ text. long_of (45 ∷ 45 ∷ text)) (append_assoc (letter ∷ name) (61 ∷ []) value) ∙ ap Some (one_equals (letter ∷ name) value is);
      apart_no_end = refl;
      joined_no_end = λ value. refl;
    }

names_readable : (names : List Text) → list_all is_option_name names ≡ true → AreReadable names
names_readable [] are = tt
names_readable (name ∷ names) are = (readable_name name (and_parts _ _ are).0, names_readable names (and_parts _ _ are).1)

pub readable_among : (names : List Text) (name : Text) → AreReadable names → list_any (has_name name) names ≡ true → IsReadable name
readable_among [] name are among = absurd (true≢false (sym among))
readable_among (first ∷ names) name are among = go (has_name name first) refl among (readable_among names name are.1)
  where
    go : (b : Bool) → has_name name first ≡ b → (b || list_any (has_name name) names) ≡ true → (list_any (has_name name) names ≡ true → IsReadable name) → IsReadable name
    go true is among later = subst IsReadable ((bytes_eq-Decides first name).0 is) are.0
    go false is among later = later among

-- the cartridge's name is given once at most
abbrev fits : Bool → List Written → Bool
fits free [] = true
fits free (apart name value ∷ written) = fits free written
fits free (joined name value ∷ written) = fits free written
fits free (raised name ∷ written) = fits free written
fits true (rom name ∷ written) = fits false written
fits false (rom name ∷ written) = false

abbrev pub left_of : Bool → List Text
left_of true = codes "rom" ∷ []
left_of false = []

with_cond : (name value : Text) (b : Bool) (arguments : List Argument) → with_value name value (cond b (Some arguments) None) ≡ cond b (Some ((name, value) ∷ arguments)) None
with_cond name value true arguments = refl
with_cond name value false arguments = refl

module _ (options flags : List Text) (readable : AreReadable options) (raisable : AreReadable flags) where
  given_written : (free : Bool) (written : List Written) → AreWritten options flags written
      → given (left_of free) options flags between (all_words written) ≡ cond (fits free written) (Some (map argument_of written)) None
  given_written true [] are = refl
  given_written false [] are = refl
  given_written free (apart name value ∷ written) are =
      let known = readable_among options name readable are.0.0 in
      sym (given_open options flags (left_of free) (codes "--" ++ name) (value ∷ all_words written) name known.apart_no_end refl known.apart_word are.0.0)
      ∙ sym (given_value options flags (left_of free) value (all_words written) name are.0.1)
      ∙ ap (with_value name value) (given_written free written are.1) ∙ with_cond name value (fits free written) (map argument_of written)
  given_written free (joined name value ∷ written) are =
      let known = readable_among options name readable are.0 in
      sym (given_option options flags (left_of free) (codes "--" ++ name ++ codes "=" ++ value) (all_words written) name value (known.joined_no_end value) refl (known.joined_word value) are.0)
      ∙ ap (with_value name value) (given_written free written are.1) ∙ with_cond name value (fits free written) (map argument_of written)
  given_written free (raised name ∷ written) are =
      let known = readable_among flags name raisable are.0.1 in
      sym (given_flag options flags (left_of free) (codes "--" ++ name) (all_words written) name known.apart_no_end refl known.apart_word are.0.0 are.0.1)
      ∙ ap (with_value name []) (given_written free written are.1) ∙ with_cond name [] (fits free written) (map argument_of written)
  given_written true (rom name ∷ written) are =
      sym (given_word options flags [] name (all_words written) (codes "rom") (plain_word name are.0).no_end are.0)
      ∙ ap (with_value (codes "rom") name) (given_written false written are.1) ∙ with_cond (codes "rom") name (fits false written) (map argument_of written)
  given_written false (rom name ∷ written) are = sym (given_stray options flags [] name (all_words written) (plain_word name are.0).no_end are.0)

-- a second name of the cartridge comes twice
fits_no_other : (written : List Written) → fits false written ≡ false → stands (codes "rom") (map argument_of written) ≡ true
fits_no_other [] many = absurd (true≢false many)
fits_no_other (apart name value ∷ written) many = or_right _ _ (fits_no_other written many)
fits_no_other (joined name value ∷ written) many = or_right _ _ (fits_no_other written many)
fits_no_other (raised name ∷ written) many = or_right _ _ (fits_no_other written many)
fits_no_other (rom name ∷ written) many = refl

fits_single : (written : List Written) → fits true written ≡ false → are_single (map argument_of written) ≡ false
fits_single [] many = absurd (true≢false many)
fits_single (apart name value ∷ written) many = and_right _ _ (fits_single written many)
fits_single (joined name value ∷ written) many = and_right _ _ (fits_single written many)
fits_single (raised name ∷ written) many = and_right _ _ (fits_single written many)
fits_single (rom name ∷ written) many = and_left _ _ (not_from_true _ (fits_no_other written many))

pub run_readable : AreReadable run_options
run_readable = names_readable run_options refl

pub flags_readable : AreReadable run_flags
flags_readable = names_readable run_flags refl

-- a run that is written is the run of its arguments
pub run_written : (written : List Written) → AreWritten run_options run_flags written → run_of (all_words written) ≡ run_of_arguments (map argument_of written)
run_written written are = ap (option_and_then run_of_arguments) (given_written run_options run_flags run_readable flags_readable true written are) ∙ go (fits true written) refl
  where
    go : (b : Bool) → fits true written ≡ b → option_and_then run_of_arguments (cond b (Some (map argument_of written)) None) ≡ run_of_arguments (map argument_of written)
    go true is = refl
    go false is = rw (fits_single written is) refl
