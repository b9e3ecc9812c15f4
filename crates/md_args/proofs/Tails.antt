-- Lists of words that begin with the same ones.
use Rattle.std.proofs.Common.{◌≡◌, ◌∙◌, refl, sym, ap, subst, Bool, true, false, cond, not, ◌&&◌, ◌||◌, ◌⊎◌, inl, inr, ⊎_elim, codes, List, [], ◌∷◌, ◌++◌, Option, Some, None}
use Rattle.std.specs.Prelude.{⊤}
use Rattle.std.specs.List.{list_any}
use Rattle.std.specs.Option.{option_and_then}
use Rattle.std.specs.Str.{bytes_eq}
use Rattle.std.proofs.lemmas.Bool.{and_parts, or_parts, or_right, true≢false, not-true}
use Rattle.std.proofs.lemmas.Slice.Eq.{bytes_eq-Decides}
use Rattle.clap.specs.Lexer.{long_of}
use Rattle.clap.specs.Walk.{Text}
use Rattle.md_args.specs.Given.{Argument, Place, are_single, between, ended, given, has_name, is_marked, option_word, value_in, value_of, with_value}
use Rattle.md_args.specs.Commands.{is_name, run_by, run_of_arguments}
use Rattle.md_args.specs.Words.{Run}
use Rattle.md_args.proofs.Rows.{stands}
use Rattle.md_args.proofs.Spellings.{left_of}

-- what holds of what two lists give, and stays so where the same argument is put in front of both
pub record Stays (Rel : Option (List Argument) → Option (List Argument) → Type 0) : Type 0 where
  pub none : Rel None None
  pub more : (name value : Text) (first second : Option (List Argument)) → Rel first second → Rel (with_value name value first) (with_value name value second)

module _ (options flags : List Text) (Rel : Option (List Argument) → Option (List Argument) → Type 0) (stays : Stays Rel) (first second : List Text)
    (here : (free : Bool) (place : Place) → Rel (given (left_of free) options flags place first) (given (left_of free) options flags place second)) where
  -- it holds of what two lists of words give, as they stand after these
  abbrev Following : List Text → Type 0
  Following before =
      (free : Bool) (place : Place) → Rel (given (left_of free) options flags place (before ++ first)) (given (left_of free) options flags place (before ++ second))

  by_test : (b : Bool) (one other one' other' : Option (List Argument)) → Rel one other → Rel one' other' → Rel (cond b one one') (cond b other other')
  by_test true one other one' other' is is' = is
  by_test false one other one' other' is is' = is'

  an_option : (look : Option (Text × Option Text)) (one other : Option (List Argument)) (waits waits' : Text → Option (List Argument)) → Rel one other → ((name : Text) → Rel (waits name) (waits' name))
      → Rel (option_word options flags look one waits) (option_word options flags look other waits')
  an_option None one other waits waits' is opens = stays.none
  an_option (Some (name, None)) one other waits waits' is opens =
      by_test (list_any (has_name name) options) _ _ _ _ (opens name) (by_test (list_any (has_name name) flags) _ _ _ _ (stays.more name [] one other is) stays.none)
  an_option (Some (name, Some value)) one other waits waits' is opens = by_test (list_any (has_name name) options) _ _ _ _ (stays.more name value one other is) stays.none

  pub following : (before : List Text) → Following before
  following [] free place = here free place
  following (word ∷ before) true ended = stays.more (codes "rom") word _ _ (following before false ended)
  following (word ∷ before) false ended = stays.none
  following (word ∷ before) free (value_of name) = by_test (is_marked word) _ _ _ _ stays.none (stays.more name word _ _ (following before free between))
  following (word ∷ before) true between =
      by_test (bytes_eq word (codes "--")) _ _ _ _ (following before true ended)
      (by_test (is_marked word) _ _ _ _ (an_option (long_of word) _ _ _ _ (following before true between) (λ name. following before true (value_of name)))
      (stays.more (codes "rom") word _ _ (following before false between)))
  following (word ∷ before) false between =
      by_test (bytes_eq word (codes "--")) _ _ _ _ (following before false ended)
      (by_test (is_marked word) _ _ _ _ (an_option (long_of word) _ _ _ _ (following before false between) (λ name. following before false (value_of name))) stays.none)

-- ---- a cartridge whose name is none

abbrev is_marked_rom : Argument → Bool
is_marked_rom argument = has_name (codes "rom") argument.0 && not (is_name argument.1)

-- the words are refused, or the cartridge's name is none
abbrev pub IsRefused : Option (List Argument) → Type 0
IsRefused None = ⊤
IsRefused (Some arguments) = list_any is_marked_rom arguments ≡ true

refused_more : (name value : Text) (given : Option (List Argument)) → IsRefused given → IsRefused (with_value name value given)
refused_more name value None refused = tt
refused_more name value (Some arguments) refused = or_right _ _ refused

-- a marked word in the cartridge's place
pub refused_here : (word : Text) (given : Option (List Argument)) → is_name word ≡ false → IsRefused (with_value (codes "rom") word given)
refused_here word None no_name = tt
refused_here word (Some arguments) no_name = rw (no_name) refl

none_refused : (arguments : List Argument) → stands (codes "rom") arguments ≡ false → list_any is_marked_rom arguments ≡ false
none_refused [] none = refl
none_refused (first ∷ arguments) none =
    let parts = or_parts (has_name (codes "rom") first.0) (stands (codes "rom") arguments) none in
    rw (parts.0) (none_refused arguments parts.1)

refused_name : (arguments : List Argument) → are_single arguments ≡ true → list_any is_marked_rom arguments ≡ true
    → (name : Text) × ((value_in arguments (codes "rom") ≡ Some name) × (is_name name ≡ false))
refused_name [] single refused = absurd (true≢false (sym refused))
refused_name (first ∷ arguments) single refused =
    go (has_name (codes "rom") first.0) (is_name first.1) refl refl refused (refused_name arguments (and_parts _ _ single).1)
  where
    go : (b d : Bool) → has_name (codes "rom") first.0 ≡ b → is_name first.1 ≡ d → ((b && not d) || list_any is_marked_rom arguments) ≡ true
        → (list_any is_marked_rom arguments ≡ true → (name : Text) × ((value_in arguments (codes "rom") ≡ Some name) × (is_name name ≡ false)))
        → (name : Text) × ((value_in (first ∷ arguments) (codes "rom") ≡ Some name) × (is_name name ≡ false))
    go true true is fine refused later =
        let same : first.0 ≡ codes "rom" = (bytes_eq-Decides first.0 (codes "rom")).0 is in
        let none : stands (codes "rom") arguments ≡ false = subst (λ n. stands n arguments ≡ false) same (not-true _ (and_parts _ _ single).0) in
        absurd (true≢false (sym refused ∙ none_refused arguments none))
    go true false is fine refused later = (first.1, (rw (is) refl, fine))
    go false d is fine refused later =
        let found = later refused in
        (found.0, (rw (is) found.1.0, found.1.1))

-- what words of a run mean, by the arguments that they give
abbrev pub meant : Option (List Argument) → Option Run
meant = option_and_then run_of_arguments

no_run : (value : Text → Option Text) (name : Text) → value (codes "rom") ≡ Some name → is_name name ≡ false → run_by value ≡ None
no_run value name is no_name = rw (is, no_name) refl

pub refused_meant : (given : Option (List Argument)) → IsRefused given → meant given ≡ None
refused_meant None refused = refl
refused_meant (Some arguments) refused = go (are_single arguments) refl
  where
    go : (b : Bool) → are_single arguments ≡ b → cond b (run_by (value_in arguments)) None ≡ None
    go true single =
        let found = refused_name arguments single refused in
        no_run (value_in arguments) found.0 found.1.0 found.1.1
    go false single = refl

-- the same, or refused both
abbrev pub Alike : Option (List Argument) → Option (List Argument) → Type 0
Alike first second = (first ≡ second) ⊎ (IsRefused first × IsRefused second)

pub alike_stays : Stays Alike
alike_stays =
    record {
      none = inl refl;
      more = λ name value first second alike. ⊎_elim (λ same. inl (ap (with_value name value) same))
          (λ refused. inr (refused_more name value first refused.0, refused_more name value second refused.1)) alike;
    }

pub alike_meant : (first second : Option (List Argument)) → Alike first second → meant first ≡ meant second
alike_meant first second alike =
    ⊎_elim (λ same. ap meant same) (λ refused. refused_meant first refused.0 ∙ sym (refused_meant second refused.1)) alike
