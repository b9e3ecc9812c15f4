-- `debug` is read as its words are meant.
use Rattle.std.proofs.Common.{◌≡◌, ◌∙◌, refl, sym, ap, Bool, true, false, cond, not, ◌||◌, codes, List, [], ◌∷◌, map, Option, Some, None}
use Rattle.std.specs.Option.{is_some, option_and_then}
use Rattle.std.proofs.lemmas.Bool.{true≢false}
use Rattle.clap.specs.Simple.{built}
use Rattle.clap.specs.Walk.{Rule, Text, is_empty, nothing_held, rows_after}
use Rattle.clap.proofs.FaultLemmas.{leaf_fault}
use Rattle.md_args.specs.Given.{Argument, value_in}
use Rattle.md_args.specs.Parse.{app_for, parse_of}
use Rattle.md_args.specs.declared.verb.Verb.TheVariants as verb
use Rattle.md_args.specs.Commands.{debugging_by, debugging_given, debugging_of}
use Rattle.md_args.proofs.Commands.{is_none}
use Rattle.md_args.proofs.Lookups.{AreFound, options_found, word_rule}
use Rattle.md_args.proofs.Parsed.{means, parsed, parsed_as}
use Rattle.md_args.proofs.Rows.{given_is, row}
use Rattle.md_args.proofs.Turns.{lacks}
use Rattle.md_args.proofs.Walks.{AreTexts}

abbrev debug_rules : List Rule
debug_rules = word_rule (codes "rom") 1 ∷ word_rule (codes "script") 2 ∷ []

-- without a name there is no session
no_script : (rom : Option Text) → debugging_given rom None ≡ None
no_script None = refl
no_script (Some rom) = refl

debug_without : (value : Text → Option Text) (rom_given script_given : Bool) → is_some (value (codes "rom")) ≡ rom_given
    → is_some (value (codes "script")) ≡ script_given → (not rom_given || (not script_given || false)) ≡ true → debugging_by value ≡ None
debug_without value false script_given rom_is script_is lacking = rw (is_none _ rom_is) refl
debug_without value true false rom_is script_is lacking = rw (is_none _ script_is) (no_script (value (codes "rom")))
debug_without value true true rom_is script_is lacking = absurd (true≢false (sym lacking))

debug_wants : (arguments : List Argument) → lacks debug_rules (map row arguments) ≡ true → debugging_by (value_in arguments) ≡ None
debug_wants arguments is =
    debug_without (value_in arguments) _ _ (sym (given_is arguments (codes "rom"))) (sym (given_is arguments (codes "script"))) is

debug_parse_is : (words : List Text) → parse_of (app_for verb.Debug) words ≡ parsed (codes "debug") debug_rules words
unfolding app_for
debug_parse_is words = ap (λ kinds. cond (is_empty kinds) (Some (rows_after debug_rules [] words)) None) (leaf_fault (built (app_for verb.Debug)) nothing_held words refl)

debug_found : AreFound debug_rules [] []
debug_found = options_found debug_rules [] (λ name. refl) tt

pub debug_means : (words : List Text) → AreTexts words → parsed_as verb.Debug debugging_by words ≡ debugging_of words
debug_means words texts =
    ap (option_and_then _) (debug_parse_is words)
    ∙ means (codes "debug") debug_rules (codes "rom" ∷ codes "script" ∷ []) [] [] debug_found (λ letter. refl)
    ((refl, refl, (refl, refl, refl))) (refl, (refl, tt)) debugging_by debug_wants words texts
