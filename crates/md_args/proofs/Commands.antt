-- The words of each command are read as they are meant.
use Rattle.std.proofs.Common.{◌≡◌, ◌∙◌, refl, sym, ap, ℕ, Bool, true, false, cond, not, ◌||◌, codes, string_bytes, List, [], ◌∷◌, map, Option, Some, None}
use Rattle.std.specs.Option.{is_some, option_and_then}
use Rattle.std.proofs.lemmas.Bool.{true≢false}
use Rattle.std.proofs.lemmas.Str.{IsUtf8-string_bytes}
use Rattle.std.specs.declared.string.String.{String}
use Rattle.clap.specs.Simple.{built}
use Rattle.clap.specs.Walk.{Rule, Text, is_empty, nothing_held, rows_after}
use Rattle.clap.proofs.FaultLemmas.{leaf_fault}
use Rattle.md_args.specs.Given.{Argument, value_in}
use Rattle.md_args.specs.Parse.{app_for, found_by, parse_of}
use Rattle.md_args.specs.Commands.{Values, conversion_by, conversion_given, conversion_of, info_by, info_of, run_by, run_from, run_flags, run_of, run_options, values_by, workers_of}
use Rattle.md_args.specs.declared.convert_words.Product.{Product}
use Rattle.md_args.specs.declared.convert_words.Product.TheVariants.{Vgm, Sound}
use Rattle.md_args.specs.declared.verb.Verb.TheVariants as verb
use Rattle.md_args.proofs.Lookups.{AreFound, all_found, options_found, flag_found, flag_rule, option_rule, word_rule}
use Rattle.md_args.proofs.Parsed.{means, options_have_none, parsed, parsed_as}
use Rattle.md_args.proofs.Rows.{given_is, row}
use Rattle.md_args.proofs.Turns.{lacks}
use Rattle.md_args.proofs.Walks.{AreTexts}

pub texts_are : {Z : Type 0} (words : List (String Z)) → AreTexts (map string_bytes words)
texts_are [] = tt
texts_are (word ∷ words) = (IsUtf8-string_bytes word, texts_are words)

abbrev rom : Rule
rom = word_rule (codes "rom") 1

-- the options of a run, and whether each has to be there
abbrev run_arguments : List (Text × Bool)
run_arguments =
    (codes "cycles", true) ∷ (codes "in", false) ∷ (codes "load", false) ∷ (codes "save", false) ∷ (codes "frames", false) ∷ (codes "sound", false) ∷ (codes "journal", false) ∷ (codes "workers", false) ∷ []

abbrev run_rules : List Rule
run_rules = rom ∷ flag_rule (codes "pal") ∷ map option_rule run_arguments

-- what has to be there
rom_wanted : (b : Bool) → (not b || false) ≡ true → b ≡ false
rom_wanted true is = absurd (true≢false (sym is))
rom_wanted false is = refl

pub is_none : {X : Type 0} (o : Option X) → is_some o ≡ false → o ≡ None
is_none None is = refl
is_none (Some x) is = absurd (true≢false is)

info_wants : (arguments : List Argument) → lacks (rom ∷ []) (map row arguments) ≡ true → info_by (value_in arguments) ≡ None
info_wants arguments is =
    let absent : value_in arguments (codes "rom") ≡ None = is_none _ (sym (given_is arguments (codes "rom")) ∙ rom_wanted _ is) in
    rw (absent) refl

info_parse_is : (words : List Text) → parse_of (app_for verb.Info) words ≡ parsed (codes "info") (rom ∷ []) words
unfolding app_for
info_parse_is words = ap (λ kinds. cond (is_empty kinds) (Some (rows_after (rom ∷ []) [] words)) None) (leaf_fault (built (app_for verb.Info)) nothing_held words refl)

info_found : AreFound (rom ∷ []) [] []
info_found = options_found (rom ∷ []) [] (λ name. refl) tt

pub info_means : (words : List Text) → AreTexts words → parsed_as verb.Info info_by words ≡ info_of words
info_means words texts =
    ap (option_and_then _) (info_parse_is words)
    ∙ means (codes "info") (rom ∷ []) (codes "rom" ∷ []) [] [] info_found (λ letter. refl) (refl, refl, refl) (refl, tt) info_by info_wants words texts

same_none : {X : Type 0} (b : Bool) → ◌≡◌ {A = Option X} (cond b None None) None
same_none true = refl
same_none false = refl

no_end : (values : Values) (name : Option Text) (workers : Option ℕ) → run_from values name None workers ≡ None
no_end values None workers = refl
no_end values (Some name) workers = refl

run_without : (value : Text → Option Text) (rom_given cycles_given : Bool) → is_some (value (codes "rom")) ≡ rom_given → is_some (value (codes "cycles")) ≡ cycles_given
    → (not rom_given || (not cycles_given || false)) ≡ true → run_by value ≡ None
run_without value false cycles_given rom_is cycles_is lacking = rw (is_none _ rom_is) (same_none _)
run_without value true false rom_is cycles_is lacking =
    rw (is_none _ cycles_is, no_end (values_by value) (value (codes "rom")) (workers_of (value (codes "workers")))) (same_none _)
run_without value true true rom_is cycles_is lacking = absurd (true≢false (sym lacking))

run_wants : (arguments : List Argument) → lacks run_rules (map row arguments) ≡ true → run_by (value_in arguments) ≡ None
run_wants arguments is =
    run_without (value_in arguments) _ _ (sym (given_is arguments (codes "rom"))) (sym (given_is arguments (codes "cycles"))) is

run_parse_is : (words : List Text) → parse_of (app_for verb.Run) words ≡ parsed (codes "run") run_rules words
unfolding app_for
run_parse_is words = ap (λ kinds. cond (is_empty kinds) (Some (rows_after run_rules [] words)) None) (leaf_fault (built (app_for verb.Run)) nothing_held words refl)

run_found : AreFound run_rules run_options run_flags
run_found = all_found run_rules (codes "pal") run_arguments (λ name. refl) refl (refl, (refl, (refl, (refl, (refl, (refl, (refl, (refl, tt))))))))

pub run_means : (words : List Text) → AreTexts words → parsed_as verb.Run run_by words ≡ run_of words
run_means words texts =
    ap (option_and_then _) (run_parse_is words)
    ∙ means (codes "run") run_rules (codes "rom" ∷ []) run_options run_flags run_found (λ letter. refl) (refl, refl, refl) (refl, (refl, options_have_none run_arguments)) run_by run_wants words texts

abbrev conversion_rules : List Rule
conversion_rules = word_rule (codes "input") 1 ∷ word_rule (codes "output") 2 ∷ flag_rule (codes "pal") ∷ []

no_output : (product : Product) (input : Option Text) (pal : Bool) → conversion_given product input None pal ≡ None
no_output product None pal = refl
no_output product (Some input) pal = refl

conversion_without : (product : Product) (value : Text → Option Text) (input_given output_given : Bool) → is_some (value (codes "input")) ≡ input_given
    → is_some (value (codes "output")) ≡ output_given → (not input_given || (not output_given || false)) ≡ true → conversion_by product value ≡ None
conversion_without product value false output_given input_is output_is lacking = rw (is_none _ input_is) refl
conversion_without product value true false input_is output_is lacking =
    rw (is_none _ output_is) (no_output product (value (codes "input")) (is_some (value (codes "pal"))))
conversion_without product value true true input_is output_is lacking = absurd (true≢false (sym lacking))

conversion_wants : (product : Product) (arguments : List Argument) → lacks conversion_rules (map row arguments) ≡ true → conversion_by product (value_in arguments) ≡ None
conversion_wants product arguments is =
    conversion_without product (value_in arguments) _ _ (sym (given_is arguments (codes "input"))) (sym (given_is arguments (codes "output"))) is

conversion_means : (name : Text) (product : Product) (words : List Text) → AreTexts words
    → option_and_then (λ rows. conversion_by product (found_by rows)) (parsed name conversion_rules words) ≡ conversion_of product words
conversion_means name product words texts =
    means name conversion_rules (codes "input" ∷ codes "output" ∷ []) [] (codes "pal" ∷ []) (flag_found conversion_rules (codes "pal") (λ other. refl)) (λ letter. refl)
    ((refl, refl, (refl, refl, refl))) (refl, (refl, (refl, tt))) (conversion_by product) (conversion_wants product) words texts

vgm_parse_is : (words : List Text) → parse_of (app_for verb.Vgm) words ≡ parsed (codes "vgm") conversion_rules words
unfolding app_for
vgm_parse_is words =
    ap (λ kinds. cond (is_empty kinds) (Some (rows_after conversion_rules [] words)) None) (leaf_fault (built (app_for verb.Vgm)) nothing_held words refl)

pub vgm_means : (words : List Text) → AreTexts words → parsed_as verb.Vgm (conversion_by Vgm) words ≡ conversion_of Vgm words
vgm_means words texts = ap (option_and_then _) (vgm_parse_is words) ∙ conversion_means (codes "vgm") Vgm words texts

play_parse_is : (words : List Text) → parse_of (app_for verb.Play) words ≡ parsed (codes "play") conversion_rules words
unfolding app_for
play_parse_is words =
    ap (λ kinds. cond (is_empty kinds) (Some (rows_after conversion_rules [] words)) None) (leaf_fault (built (app_for verb.Play)) nothing_held words refl)

pub play_means : (words : List Text) → AreTexts words → parsed_as verb.Play (conversion_by Sound) words ≡ conversion_of Sound words
play_means words texts = ap (option_and_then _) (play_parse_is words) ∙ conversion_means (codes "play") Sound words texts
