-- `rollback` is read as its words are meant.
use Rattle.std.proofs.Common.{◌≡◌, ◌∙◌, refl, sym, ap, Bool, true, false, cond, not, ◌||◌, codes, ℕ, List, [], ◌∷◌, map, Option, Some, None}
use Rattle.std.specs.Option.{is_some, option_and_then}
use Rattle.std.proofs.lemmas.Bool.{true≢false}
use Rattle.clap.specs.Simple.{built}
use Rattle.clap.specs.Walk.{Rule, Text, is_empty, nothing_held, rows_after}
use Rattle.clap.proofs.FaultLemmas.{leaf_fault}
use Rattle.md_args.specs.Given.{Argument, value_in}
use Rattle.md_args.specs.Parse.{app_for, parse_of}
use Rattle.md_args.specs.declared.verb.Verb.TheVariants as verb
use Rattle.md_args.specs.Commands.{rolling_by, rolling_from, rolling_of, wanted_window}
use Rattle.md_args.proofs.Commands.{is_none}
use Rattle.md_args.proofs.Lookups.{AreFound, options_found, option_rule, word_rule}
use Rattle.md_args.proofs.Parsed.{means, options_have_none, parsed, parsed_as}
use Rattle.md_args.proofs.Rows.{given_is, row}
use Rattle.md_args.proofs.Turns.{lacks}
use Rattle.md_args.proofs.Walks.{AreTexts}

-- the option of `rollback`, which has to be there
abbrev rollback_arguments : List (Text × Bool)
rollback_arguments = (codes "window", true) ∷ []

abbrev rollback_rules : List Rule
rollback_rules = word_rule (codes "rom") 1 ∷ word_rule (codes "inputs") 2 ∷ map option_rule rollback_arguments

-- without an argument there is no session
no_inputs : (rom : Option Text) (window : Option ℕ) → rolling_from rom None window ≡ None
no_inputs None window = refl
no_inputs (Some rom) window = refl

no_window : (rom inputs : Option Text) → rolling_from rom inputs None ≡ None
no_window None inputs = refl
no_window (Some rom) None = refl
no_window (Some rom) (Some inputs) = refl

rollback_without : (value : Text → Option Text) (rom_given inputs_given window_given : Bool) → is_some (value (codes "rom")) ≡ rom_given
    → is_some (value (codes "inputs")) ≡ inputs_given → is_some (value (codes "window")) ≡ window_given
    → (not rom_given || (not inputs_given || (not window_given || false))) ≡ true → rolling_by value ≡ None
rollback_without value false inputs_given window_given rom_is inputs_is window_is lacking = rw (is_none _ rom_is) refl
rollback_without value true false window_given rom_is inputs_is window_is lacking =
    rw (is_none _ inputs_is) (no_inputs (value (codes "rom")) (wanted_window (value (codes "window"))))
rollback_without value true true false rom_is inputs_is window_is lacking =
    rw (is_none _ window_is) (no_window (value (codes "rom")) (value (codes "inputs")))
rollback_without value true true true rom_is inputs_is window_is lacking = absurd (true≢false (sym lacking))

rollback_wants : (arguments : List Argument) → lacks rollback_rules (map row arguments) ≡ true → rolling_by (value_in arguments) ≡ None
rollback_wants arguments is =
    rollback_without (value_in arguments) _ _ _ (sym (given_is arguments (codes "rom"))) (sym (given_is arguments (codes "inputs"))) (sym (given_is arguments (codes "window"))) is

rollback_parse_is : (words : List Text) → parse_of (app_for verb.Rollback) words ≡ parsed (codes "rollback") rollback_rules words
unfolding app_for
rollback_parse_is words =
    ap (λ kinds. cond (is_empty kinds) (Some (rows_after rollback_rules [] words)) None) (leaf_fault (built (app_for verb.Rollback)) nothing_held words refl)

rollback_found : AreFound rollback_rules (codes "window" ∷ []) []
rollback_found = options_found rollback_rules rollback_arguments (λ name. refl) (refl, tt)

pub rollback_means : (words : List Text) → AreTexts words → parsed_as verb.Rollback rolling_by words ≡ rolling_of words
rollback_means words texts =
    ap (option_and_then _) (rollback_parse_is words)
    ∙ means (codes "rollback") rollback_rules (codes "rom" ∷ codes "inputs" ∷ []) (codes "window" ∷ []) [] rollback_found (λ letter. refl)
    ((refl, refl, (refl, refl, refl))) (refl, (refl, options_have_none rollback_arguments)) rolling_by rollback_wants words texts
