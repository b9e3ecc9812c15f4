-- The commands are simple ones: how their words are read is defined.
use Rattle.std.proofs.Common.{◌≡◌, ◌∙◌, ap, List, Option, true, refl}
use Rattle.std.specs.Option.{option_map}
use Rattle.clap.specs.Faults.{is_simple_and_free}
use Rattle.clap.specs.Matches.{found_of}
use Rattle.clap.specs.Simple.{App}
use Rattle.clap.specs.Walk.{Row, Text, rows_of}
use Rattle.clap.specs.declared.parser.matches.ArgMatches.{ArgMatches}
use Rattle.md_args.specs.Parse.{app_for, parse_of}
use Rattle.md_args.specs.declared.verb.Verb.{Verb}
use Rattle.md_args.specs.declared.verb.Verb.TheVariants as verb

pub is_simple : (verb : Verb) → is_simple_and_free (app_for verb) ≡ true
unfolding app_for
is_simple verb.Info = refl
is_simple verb.Run = refl
is_simple verb.Demo = refl
is_simple verb.Vgm = refl
is_simple verb.Play = refl
is_simple verb.Asm = refl
is_simple verb.Debug = refl
is_simple verb.Rollback = refl

abbrev pub rows_in : Option ArgMatches → Option (List Row)
rows_in = option_map (λ m. rows_of (found_of m))

-- what a parse by a command that is built as this one found
pub as_parsed : (built known : App) (words : List Text) (found : Option ArgMatches) → built ≡ known → is_simple_and_free known ≡ true
    → (is_simple_and_free built ≡ true → rows_in found ≡ parse_of built words) → rows_in found ≡ parse_of known words
as_parsed built known words found is simple parsed = parsed (ap is_simple_and_free is ∙ simple) ∙ ap (λ app. parse_of app words) is
