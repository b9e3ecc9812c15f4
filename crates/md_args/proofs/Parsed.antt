-- What `clap` and this crate make of words is what the arguments mean that the words give.
use Rattle.std.proofs.Common.{◌≡◌, ◌∙◌, refl, sym, ap, arith, ℕ, suc, Bool, true, false, cond, ◌||◌, ◌==◌, length, List, [], ◌∷◌, map, Option, Some, None, fold}
use Rattle.std.specs.Option.{option_and_then}
use Rattle.std.proofs.lemmas.Bool.{eqb-true}
use Rattle.clap.specs.Kinds.{Kinds, check_kinds, or_else}
use Rattle.clap.specs.Faults.{check_fault, defaults_fault, level_fault, settle_fault, walk_fault}
use Rattle.clap.specs.Walk.{Row, Rule, Text, arg_by_short, has_row, idle, is_empty, nothing_held, rows_after, settled, walk, walk_from, with_default}
use Rattle.md_args.specs.Given.{Argument, are_single, between, given, meant_by, value_in}
use Rattle.md_args.specs.Parse.{app_for, found_by, parse_of}
use Rattle.md_args.specs.declared.verb.Verb.{Verb}
use Rattle.md_args.proofs.Lookups.{AreFound, option_rule}
use Rattle.md_args.proofs.Rows.{found_is, put_single, row}
use Rattle.md_args.proofs.Turns.{at, complete, fine_both, if_fine, lacks, outcome, shape}
use Rattle.md_args.proofs.Walks.{AreLeft, AreTexts, both, taken}

-- no argument has a default
abbrev pub HaveNone : List Rule → Type 0
HaveNone [] = Unit {0}
HaveNone (rule ∷ rules) = (rule.defaults ≡ []) × HaveNone rules

pub options_have_none : (options : List (Text × Bool)) → HaveNone (map option_rule options)
options_have_none [] = tt
options_have_none (option ∷ options) = (refl, options_have_none options)

same_both : {X : Type 0} (b : Bool) (x : X) → cond b x x ≡ x
same_both true x = refl
same_both false x = refl

or_true : (b : Bool) → (b || true) ≡ true
or_true true = refl
or_true false = refl

no_defaults : (rules : List Rule) → HaveNone rules → (rows : List Row) → fold with_default rows rules ≡ rows
no_defaults [] none rows = refl
no_defaults (rule ∷ rules) none rows =
    let first : with_default rows rule ≡ rows = rw (none.0) (same_both (has_row rule.id rows) rows) in
    ap (λ next. fold with_default next rules) first ∙ no_defaults rules none.1 rows

no_default_fault : (rules : List Rule) → HaveNone rules → (rows : List Row) → defaults_fault rows rules ≡ []
unfolding defaults_fault
no_default_fault [] none rows = refl
no_default_fault (rule ∷ rules) none rows =
    let first : with_default rows rule ≡ rows = rw (none.0) (same_both (has_row rule.id rows) rows) in
    rw (first, none.0, or_true (has_row rule.id rows)) (no_default_fault rules none.1 rows)

some_kinds : (n : ℕ) (b : Bool) → (suc n == 0) ≡ b → b ≡ false
some_kinds n true is = absurd (omega (arith, eqb-true (suc n) 0 is))
some_kinds n false is = refl

when_fine : (kinds : Kinds) (found : Option (List Row)) → cond (is_empty kinds) found None ≡ if_fine kinds found
when_fine [] found = refl
when_fine (kind ∷ kinds) found = rw (some_kinds (length kinds) _ refl) refl

-- what is made of the rows that the command of a verb finds
abbrev pub parsed_as : {X : Type 0} → Verb → ((Text → Option Text) → Option X) → List Text → Option X
parsed_as verb meaning words = option_and_then (λ rows. meaning (found_by rows)) (parse_of (app_for verb) words)

-- what `clap` finds with a command of these arguments, or none where it refuses the words
abbrev pub parsed : Text → List Rule → List Text → Option (List Row)
parsed command rules words = cond (is_empty (level_fault (shape command rules) [] nothing_held words false [])) (Some (rows_after rules [] words)) None

checked : (command : Text) (rules : List Rule) (rows : List Row) → if_fine (check_fault (shape command rules) rows false) (Some rows) ≡ complete rules rows
checked command rules rows = go (lacks rules rows)
  where
    go : (b : Bool) → if_fine (check_kinds false false b) (Some rows) ≡ cond b None (Some rows)
    go true = refl
    go false = refl

parsed_is : (command : Text) (rules : List Rule) → HaveNone rules → (words : List Text) → parsed command rules words ≡ outcome command rules (at idle 1 false [] None) words
parsed_is command rules none words =
    let end = (walk rules [] nothing_held words).held in
    let rows = (settled rules end).rows in
    let walk_kinds = walk_fault (shape command rules) [] (walk_from nothing_held) words in
    let end_kinds = settle_fault rules false end in
    let check_kinds = check_fault (shape command rules) rows false in
    when_fine (level_fault (shape command rules) [] nothing_held words false []) (Some (rows_after rules [] words))
    ∙ rw (no_defaults rules none rows, no_default_fault rules none rows)
    (fine_both walk_kinds (or_else end_kinds check_kinds) (Some rows) ∙ ap (if_fine walk_kinds) (fine_both end_kinds check_kinds (Some rows) ∙ ap (if_fine end_kinds) (checked command rules rows)))

module _ (command : Text) (rules : List Rule) (positionals options flags : List Text) (found : AreFound rules options flags) (no_short : (letter : ℕ) → arg_by_short rules letter ≡ None)
    (left : AreLeft rules 1 positionals) (none : HaveNone rules) where
  -- the rows that are found are the arguments that are given
  rows_given : (words : List Text) → AreTexts words → parsed command rules words ≡ taken rules (given positionals options flags between words) []
  rows_given words texts = parsed_is command rules none words ∙ (both command rules options flags found no_short words texts).0 1 positionals left [] None

  -- a meaning of the arguments' values, which has none where one is missing that has to be there
  module _ {X : Type 0} (meaning : (Text → Option Text) → Option X) (wants : (arguments : List Argument) → lacks rules (map row arguments) ≡ true → meaning (value_in arguments) ≡ None) where
    of_complete : (arguments : List Argument) (b : Bool) → lacks rules (map row arguments) ≡ b
        → option_and_then (λ rows. meaning (found_by rows)) (cond b None (Some (map row arguments))) ≡ meaning (value_in arguments)
    of_complete arguments true is = sym (wants arguments is)
    of_complete arguments false is = ap meaning (λ i name. found_is arguments name i)

    of_single : (arguments : List Argument) (b : Bool)
        → option_and_then (λ rows. meaning (found_by rows)) (cond b (complete rules (map row arguments)) None) ≡ cond b (meaning (value_in arguments)) None
    of_single arguments true = of_complete arguments (lacks rules (map row arguments)) refl
    of_single arguments false = refl

    of_taken : (given : Option (List Argument)) → option_and_then (λ rows. meaning (found_by rows)) (taken rules given []) ≡ option_and_then (meant_by meaning) given
    of_taken None = refl
    of_taken (Some arguments) =
        ap (option_and_then (λ rows. meaning (found_by rows))) (put_single rules [] refl arguments) ∙ of_single arguments (are_single arguments)

    -- `clap` reads the words as they are meant
    pub means : (words : List Text) → AreTexts words
        → option_and_then (λ rows. meaning (found_by rows)) (parsed command rules words) ≡ option_and_then (meant_by meaning) (given positionals options flags between words)
    means words texts = ap (option_and_then (λ rows. meaning (found_by rows))) (rows_given words texts) ∙ of_taken (given positionals options flags between words)
