-- `demo` is read as its words are meant.
use Rattle.std.proofs.Common.{◌≡◌, ◌∙◌, refl, sym, ap, Bool, true, false, cond, not, ◌||◌, codes, ℕ, List, [], ◌∷◌, map, Option, Some, None}
use Rattle.std.specs.Option.{is_some, option_and_then}
use Rattle.std.proofs.lemmas.Bool.{true≢false}
use Rattle.clap.specs.Simple.{built}
use Rattle.clap.specs.Walk.{Rule, Text, is_empty, nothing_held, rows_after}
use Rattle.clap.proofs.FaultLemmas.{leaf_fault}
use Rattle.md_args.specs.Given.{Argument, value_in}
use Rattle.md_args.specs.Parse.{app_for, parse_of}
use Rattle.md_args.specs.declared.verb.Verb.TheVariants as verb
use Rattle.md_args.specs.Commands.{demo_by, demo_from, demo_of}
use Rattle.md_args.proofs.Commands.{is_none}
use Rattle.md_args.proofs.Lookups.{AreFound, all_found, flag_rule, option_rule, word_rule}
use Rattle.md_args.proofs.Parsed.{means, options_have_none, parsed, parsed_as}
use Rattle.md_args.proofs.Rows.{given_is, row}
use Rattle.md_args.proofs.Turns.{lacks}
use Rattle.md_args.proofs.Walks.{AreTexts}

-- the options of `demo`, and whether each has to be there
abbrev demo_arguments : List (Text × Bool)
demo_arguments = (codes "cycles", true) ∷ (codes "workers", true) ∷ []

abbrev demo_rules : List Rule
demo_rules = word_rule (codes "number") 1 ∷ flag_rule (codes "pal") ∷ map option_rule demo_arguments

-- without an argument there is no run
no_end : (number workers : Option ℕ) (pal : Bool) → demo_from number None workers pal ≡ None
no_end None workers pal = refl
no_end (Some number) workers pal = refl

no_workers : (number end : Option ℕ) (pal : Bool) → demo_from number end None pal ≡ None
no_workers None end pal = refl
no_workers (Some number) None pal = refl
no_workers (Some number) (Some end) pal = refl

demo_without : (value : Text → Option Text) (number_given cycles_given workers_given : Bool) → is_some (value (codes "number")) ≡ number_given
    → is_some (value (codes "cycles")) ≡ cycles_given → is_some (value (codes "workers")) ≡ workers_given
    → (not number_given || (not cycles_given || (not workers_given || false))) ≡ true → demo_by value ≡ None
demo_without value false cycles_given workers_given number_is cycles_is workers_is lacking = rw (is_none _ number_is) refl
demo_without value true false workers_given number_is cycles_is workers_is lacking = rw (is_none _ cycles_is) (no_end _ _ _)
demo_without value true true false number_is cycles_is workers_is lacking = rw (is_none _ workers_is) (no_workers _ _ _)
demo_without value true true true number_is cycles_is workers_is lacking = absurd (true≢false (sym lacking))

demo_wants : (arguments : List Argument) → lacks demo_rules (map row arguments) ≡ true → demo_by (value_in arguments) ≡ None
demo_wants arguments is =
    demo_without (value_in arguments) _ _ _ (sym (given_is arguments (codes "number"))) (sym (given_is arguments (codes "cycles"))) (sym (given_is arguments (codes "workers"))) is

demo_parse_is : (words : List Text) → parse_of (app_for verb.Demo) words ≡ parsed (codes "demo") demo_rules words
unfolding app_for
demo_parse_is words = ap (λ kinds. cond (is_empty kinds) (Some (rows_after demo_rules [] words)) None) (leaf_fault (built (app_for verb.Demo)) nothing_held words refl)

demo_found : AreFound demo_rules (codes "cycles" ∷ codes "workers" ∷ []) (codes "pal" ∷ [])
demo_found = all_found demo_rules (codes "pal") demo_arguments (λ name. refl) refl (refl, (refl, tt))

pub demo_means : (words : List Text) → AreTexts words → parsed_as verb.Demo demo_by words ≡ demo_of words
demo_means words texts =
    ap (option_and_then _) (demo_parse_is words)
    ∙ means (codes "demo") demo_rules (codes "number" ∷ []) (codes "cycles" ∷ codes "workers" ∷ []) (codes "pal" ∷ []) demo_found (λ letter. refl) (refl, refl, refl) (refl, (refl, options_have_none demo_arguments)) demo_by demo_wants words texts
