-- The rows that `clap` holds are the arguments that were given, each once.
use Rattle.std.proofs.Common.{◌≡◌, ◌∙◌, refl, sym, ap, Bool, true, false, cond, ◌||◌, List, [], ◌∷◌, ◌++◌, map, find, append-nil, append_assoc, Some, None}
use Rattle.std.specs.Prelude.{slice_get}
use Rattle.std.specs.List.{list_any}
use Rattle.std.specs.Option.{is_some, option_and_then, option_map, option_map_or}
use Rattle.std.specs.Str.{bytes_eq}
use Rattle.std.proofs.lemmas.Bool.{and_from, and_left, and_parts, and_right, not_from_false, not_from_true, or_from, or_parts, or_right, true≢false, not-true}
use Rattle.std.proofs.lemmas.List.{map-append}
use Rattle.std.proofs.lemmas.List.Folds.{list_any-append}
use Rattle.std.proofs.lemmas.Slice.Eq.{bytes_eq-Decides}
use Rattle.std.proofs.lemmas.Bool.Decides.{same_from_decides}
use Rattle.clap.specs.Facts.{explicit_source}
use Rattle.clap.specs.Takes.{is_given}
use Rattle.clap.specs.Walk.{Row, Rule, Text, at_row, has_row, more_values, reading_by}
use Rattle.clap.specs.declared.parser.matches.ValueSource.TheVariants.{CommandLine}
use Rattle.md_args.specs.Given.{Argument, are_single, has_name, value_in}
use Rattle.md_args.specs.Parse.{found_by}
use Rattle.md_args.proofs.Lookups.{single}
use Rattle.md_args.proofs.Turns.{added, complete}
use Rattle.md_args.proofs.Walks.{put}

-- what is held of an argument
abbrev pub row : Argument → Row
row argument =
    record {
      id = argument.0;
      values = argument.1 ∷ [];
      count = None;
      source = Some CommandLine;
      reading = reading_by (single argument.0 None None false);
    }

-- an argument of this name is among them
abbrev pub stands : Text → List Argument → Bool
stands name = list_any (λ argument. has_name name argument.0)

row_absent : (id : Text) (change : Row → List Row) (missing rows : List Row) → has_row id rows ≡ false → at_row id change missing rows ≡ rows ++ missing
row_absent id change missing [] absent = refl
row_absent id change missing (first ∷ rows) absent =
    let parts = or_parts (bytes_eq first.id id) (has_row id rows) absent in
    rw (parts.0) (ap (λ rest. first ∷ rest) (row_absent id change missing rows parts.1))

added_last : (argument : Argument) (rows : List Row) → has_row argument.0 rows ≡ false → added argument.0 argument.1 rows ≡ rows ++ row argument ∷ []
added_last argument rows absent =
    ap (at_row argument.0 (more_values CommandLine (argument.1 ∷ [])) (row argument ∷ [])) (row_absent argument.0 (λ _. []) [] rows absent ∙ append-nil rows)
    ∙ row_absent argument.0 (more_values CommandLine (argument.1 ∷ [])) (row argument ∷ []) rows absent

row_stands : (name : Text) (arguments : List Argument) → has_row name (map row arguments) ≡ stands name arguments
row_stands name [] = refl
row_stands name (first ∷ arguments) = ap (λ b. has_name name first.0 || b) (row_stands name arguments)

pub found_is : (arguments : List Argument) (name : Text) → found_by (map row arguments) name ≡ value_in arguments name
found_is [] name = refl
found_is (first ∷ arguments) name = go (has_name name first.0) (found_is arguments name)
  where
    go : (b : Bool) → found_by (map row arguments) name ≡ value_in arguments name
        → option_and_then (λ (r : Row). slice_get r.values 0) (cond b (Some (row first)) (find (λ r. bytes_eq r.id name) (map row arguments)))
        ≡ option_map (λ (argument : Argument). argument.1) (cond b (Some first) (find (λ argument. has_name name argument.0) arguments))
    go true later = refl
    go false later = later

pub given_is : (arguments : List Argument) (name : Text) → is_given name (map row arguments) ≡ is_some (value_in arguments name)
given_is [] name = refl
given_is (first ∷ arguments) name = go (has_name name first.0) (given_is arguments name)
  where
    go : (b : Bool) → is_given name (map row arguments) ≡ is_some (value_in arguments name)
        → option_map_or (λ (r : Row). explicit_source r.source) (cond b (Some (row first)) (find (λ r. bytes_eq r.id name) (map row arguments))) false
        ≡ is_some (option_map (λ (argument : Argument). argument.1) (cond b (Some first) (find (λ argument. has_name name argument.0) arguments)))
    go true later = refl
    go false later = later

pub name_swap : (name other : Text) → has_name name other ≡ has_name other name
name_swap name other =
    let back = bytes_eq-Decides name other in
    same_from_decides (has_name name other) (has_name other name) (bytes_eq-Decides other name) ((λ is. sym (back.0 is)), (λ is. back.1 (sym is)))

doubled : (before after : List Argument) (argument : Argument) → stands argument.0 before ≡ true → are_single (before ++ argument ∷ after) ≡ false
doubled [] after argument twice = absurd (true≢false (sym twice))
doubled (first ∷ before) after argument twice = go (has_name argument.0 first.0) refl twice (doubled before after argument)
  where
    go : (b : Bool) → has_name argument.0 first.0 ≡ b → (b || stands argument.0 before) ≡ true → (stands argument.0 before ≡ true → are_single (before ++ argument ∷ after) ≡ false)
        → are_single (first ∷ (before ++ argument ∷ after)) ≡ false
    go true is twice later =
        let here : stands first.0 (argument ∷ after) ≡ true = rw (name_swap first.0 argument.0, is) refl in
        and_left _ _ (not_from_true _ (list_any-append (λ (a : Argument). has_name first.0 a.0) before (argument ∷ after) ∙ or_right _ _ here))
    go false is twice later = and_right _ _ (later twice)

one_more_single : (before : List Argument) (argument : Argument) → are_single before ≡ true → stands argument.0 before ≡ false → are_single (before ++ argument ∷ []) ≡ true
one_more_single [] argument once absent = refl
one_more_single (first ∷ before) argument once absent =
    let parts = and_parts _ _ once in
    let others = or_parts (has_name argument.0 first.0) (stands argument.0 before) absent in
    let last : stands first.0 (argument ∷ []) ≡ false = rw (name_swap first.0 argument.0, others.0) refl in
    let none : stands first.0 (before ++ argument ∷ []) ≡ false =
    list_any-append (λ (a : Argument). has_name first.0 a.0) before (argument ∷ []) ∙ or_from _ _ (not-true _ parts.0) last in
    and_from _ _ (not_from_false _ none) (one_more_single before argument parts.1 others.1)

-- arguments are put after others where no name comes twice
pub put_single : (rules : List Rule) (before : List Argument) → are_single before ≡ true → (arguments : List Argument)
    → put rules (map row before) arguments ≡ cond (are_single (before ++ arguments)) (complete rules (map row (before ++ arguments))) None
put_single rules before once [] = rw (append-nil before, once) refl
put_single rules before once (argument ∷ arguments) =
    elim (stands argument.0 before) as (λ b. stands argument.0 before ≡ b
    → put rules (map row before) (argument ∷ arguments)
    ≡ cond (are_single (before ++ argument ∷ arguments)) (complete rules (map row (before ++ argument ∷ arguments))) None) [
      | true ↦ λ twice. rw (row_stands argument.0 before, twice, doubled before arguments argument twice) refl
      | false ↦ λ absent.
          let next : added argument.0 argument.1 (map row before) ≡ map row (before ++ argument ∷ []) =
          added_last argument (map row before) (row_stands argument.0 before ∙ absent) ∙ sym (map-append row before (argument ∷ [])) in
          rw (row_stands argument.0 before, absent, next)
          (put_single rules (before ++ argument ∷ []) (one_more_single before argument once absent) arguments
          ∙ ap (λ all. cond (are_single all) (complete rules (map row all)) None) (append_assoc before (argument ∷ []) arguments))
    ]
    refl
