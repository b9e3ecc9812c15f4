-- What a verb asks for is what the words after it mean.
use Rattle.std.proofs.Common.{◌≡◌, ◌∙◌, refl, ap, List, Option, Some, None}
use Rattle.std.specs.Option.{option_and_then, option_map}
use Rattle.clap.specs.Walk.{Text}
use Rattle.md_args.specs.Parse.{app_for, asked_by, chosen_by, parse_of}
use Rattle.md_args.specs.Words.{Assemble, Convert, Debug, Info, Rollback, RunCart, RunDemo}
use Rattle.md_args.specs.declared.verb.Verb.{Verb}
use Rattle.md_args.specs.declared.verb.Verb.TheVariants as verb
use Rattle.md_args.proofs.Assemblings.{asm_means}
use Rattle.md_args.proofs.Commands.{info_means, play_means, run_means, vgm_means}
use Rattle.md_args.proofs.Debuggings.{debug_means}
use Rattle.md_args.proofs.Demos.{demo_means}
use Rattle.md_args.proofs.Parsed.{parsed_as}
use Rattle.md_args.proofs.Rollings.{rollback_means}
use Rattle.md_args.proofs.Walks.{AreTexts}

-- what is made of a value may be made of it later
later : {X Y Z : Type 0} (change : Y → Z) (meaning : X → Option Y) (o : Option X)
    → option_and_then (λ x. option_map change (meaning x)) o ≡ option_map change (option_and_then meaning o)
later change meaning None = refl
later change meaning (Some x) = refl

pub asked_is : (verb : Verb) (words : List Text) → AreTexts words → parsed_as verb (chosen_by verb) words ≡ asked_by verb words
asked_is verb.Info words texts = later Info _ (parse_of (app_for verb.Info) words) ∙ ap (option_map Info) (info_means words texts)
asked_is verb.Run words texts = later RunCart _ (parse_of (app_for verb.Run) words) ∙ ap (option_map RunCart) (run_means words texts)
asked_is verb.Demo words texts = later RunDemo _ (parse_of (app_for verb.Demo) words) ∙ ap (option_map RunDemo) (demo_means words texts)
asked_is verb.Vgm words texts = later Convert _ (parse_of (app_for verb.Vgm) words) ∙ ap (option_map Convert) (vgm_means words texts)
asked_is verb.Play words texts = later Convert _ (parse_of (app_for verb.Play) words) ∙ ap (option_map Convert) (play_means words texts)
asked_is verb.Asm words texts = later Assemble _ (parse_of (app_for verb.Asm) words) ∙ ap (option_map Assemble) (asm_means words texts)
asked_is verb.Debug words texts = later Debug _ (parse_of (app_for verb.Debug) words) ∙ ap (option_map Debug) (debug_means words texts)
asked_is verb.Rollback words texts = later Rollback _ (parse_of (app_for verb.Rollback) words) ∙ ap (option_map Rollback) (rollback_means words texts)
