-- `asm` is read as its words are meant.
use Rattle.std.proofs.Common.{◌≡◌, ◌∙◌, refl, sym, ap, Bool, true, false, cond, not, ◌||◌, codes, List, [], ◌∷◌, map, Option, Some, None}
use Rattle.std.specs.Option.{is_some, option_and_then}
use Rattle.std.proofs.lemmas.Bool.{true≢false}
use Rattle.clap.specs.Simple.{built}
use Rattle.clap.specs.Walk.{Rule, Text, is_empty, nothing_held, rows_after}
use Rattle.clap.proofs.FaultLemmas.{leaf_fault}
use Rattle.md_args.specs.Given.{Argument, value_in}
use Rattle.md_args.specs.Parse.{app_for, parse_of}
use Rattle.md_args.specs.declared.verb.Verb.TheVariants as verb
use Rattle.md_args.specs.Commands.{assembling_by, assembling_given, assembling_of}
use Rattle.md_args.proofs.Commands.{is_none}
use Rattle.md_args.proofs.Lookups.{AreFound, options_found, option_rule, word_rule}
use Rattle.md_args.proofs.Parsed.{means, options_have_none, parsed, parsed_as}
use Rattle.md_args.proofs.Rows.{given_is, row}
use Rattle.md_args.proofs.Turns.{lacks}
use Rattle.md_args.proofs.Walks.{AreTexts}

-- the option of `asm`, and that it does not have to be there
abbrev asm_arguments : List (Text × Bool)
asm_arguments = (codes "list", false) ∷ []

abbrev asm_rules : List Rule
asm_rules = word_rule (codes "source") 1 ∷ word_rule (codes "output") 2 ∷ map option_rule asm_arguments

-- without a name there is no assembly
no_output : (source list : Option Text) → assembling_given source None list ≡ None
no_output None list = refl
no_output (Some source) list = refl

asm_without : (value : Text → Option Text) (source_given output_given : Bool) → is_some (value (codes "source")) ≡ source_given
    → is_some (value (codes "output")) ≡ output_given → (not source_given || (not output_given || false)) ≡ true → assembling_by value ≡ None
asm_without value false output_given source_is output_is lacking = rw (is_none _ source_is) refl
asm_without value true false source_is output_is lacking = rw (is_none _ output_is) (no_output (value (codes "source")) (value (codes "list")))
asm_without value true true source_is output_is lacking = absurd (true≢false (sym lacking))

asm_wants : (arguments : List Argument) → lacks asm_rules (map row arguments) ≡ true → assembling_by (value_in arguments) ≡ None
asm_wants arguments is =
    asm_without (value_in arguments) _ _ (sym (given_is arguments (codes "source"))) (sym (given_is arguments (codes "output"))) is

asm_parse_is : (words : List Text) → parse_of (app_for verb.Asm) words ≡ parsed (codes "asm") asm_rules words
unfolding app_for
asm_parse_is words = ap (λ kinds. cond (is_empty kinds) (Some (rows_after asm_rules [] words)) None) (leaf_fault (built (app_for verb.Asm)) nothing_held words refl)

asm_found : AreFound asm_rules (codes "list" ∷ []) []
asm_found = options_found asm_rules asm_arguments (λ name. refl) (refl, tt)

pub asm_means : (words : List Text) → AreTexts words → parsed_as verb.Asm assembling_by words ≡ assembling_of words
asm_means words texts =
    ap (option_and_then _) (asm_parse_is words)
    ∙ means (codes "asm") asm_rules (codes "source" ∷ codes "output" ∷ []) (codes "list" ∷ []) [] asm_found (λ letter. refl)
    ((refl, refl, (refl, refl, refl))) (refl, (refl, options_have_none asm_arguments)) assembling_by asm_wants words texts
