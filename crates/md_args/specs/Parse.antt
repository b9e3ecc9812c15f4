-- How `clap` reads what comes after a command's own word: the commands that it is given, and what is made
-- of the values that it finds.
use Rattle.std.specs.Prelude.{◌∷◌, [], List, Option, Some, None, true, fold, codes, if◌then◌else◌}
use Rattle.std.specs.Option.{option_map}
use Rattle.std.specs.Str.{bytes_eq}
use Rattle.clap.specs.Walk.{Row, Rule, Text, first_of, is_empty}
use Rattle.clap.specs.Simple.{App, matches_of, new_app, new_rule, with_rule}
use Rattle.clap.specs.Faults.{fault_of}
use Rattle.clap.specs.declared.builder.action.ArgAction.TheVariants.{Set}
use Rattle.md_args.specs.Commands.{assembling_by, assembling_of, conversion_by, conversion_of, debugging_by, debugging_of, demo_by, demo_of, info_by, info_of, rolling_by, rolling_of, run_by, run_of}
use Rattle.md_args.specs.Words.{Assemble, Command, Convert, Debug, Info, Rollback, RunCart, RunDemo}
use Rattle.md_args.specs.declared.convert_words.Product.TheVariants.{Vgm, Sound}
use Rattle.md_args.specs.declared.parameter.Parameter.{Parameter}
use Rattle.md_args.specs.declared.parameter.Parameter.TheVariants as takes
use Rattle.md_args.specs.declared.verb.Verb.{Verb}
use Rattle.md_args.specs.declared.verb.Verb.TheVariants as verb

-- what a simple command makes of the words: the rows that it finds, or none where it refuses them
abbrev pub parse_of : App → List Text → Option (List Row)
parse_of app words = if is_empty (fault_of app words) then Some (matches_of app words) else None

-- an option, `--name value` or `--name=value`
abbrev pub option : Text → Rule
option name = record (new_rule name) { long = Some name }

-- a positional word
abbrev pub positional : Text → Rule
positional name = new_rule name

-- a flag, `--name`: it takes no value, and its value is then empty
abbrev pub flag : Text → Rule
flag name =
    record (new_rule name) {
      long = Some name;
      action = Some Set;
      range = Some (record { start_inclusive = 0; end_inclusive = 0 });
      missing = [] ∷ [];
    }

-- an argument that has to be there
abbrev pub required : Rule → Rule
required rule = record rule { required = true }

-- the rule of what a command takes
abbrev pub rule_for : Parameter → Rule
rule_for (takes.Word name) = required (positional name.now)
rule_for (takes.Flag name) = flag name.now
rule_for (takes.Wanted name) = required (option name.now)
rule_for (takes.Option name) = option name.now

-- a command with no argument yet: it reads no program's name, and has no help
abbrev pub bare : Text → App
bare name = record (new_app name) { top = record (new_app name).top { no_binary_name = true; disable_help_flag = true } }

-- the verb that a word is
abbrev pub verb_of : Text → Option Verb
verb_of word =
    if bytes_eq word (codes "info") then Some verb.Info
    else if bytes_eq word (codes "run") then Some verb.Run
    else if bytes_eq word (codes "demo") then Some verb.Demo
    else if bytes_eq word (codes "vgm") then Some verb.Vgm
    else if bytes_eq word (codes "play") then Some verb.Play
    else if bytes_eq word (codes "asm") then Some verb.Asm
    else if bytes_eq word (codes "debug") then Some verb.Debug
    else if bytes_eq word (codes "rollback") then Some verb.Rollback
    else None

-- the word of a verb
abbrev pub name_of : Verb → Text
name_of verb.Info = codes "info"
name_of verb.Run = codes "run"
name_of verb.Demo = codes "demo"
name_of verb.Vgm = codes "vgm"
name_of verb.Play = codes "play"
name_of verb.Asm = codes "asm"
name_of verb.Debug = codes "debug"
name_of verb.Rollback = codes "rollback"

-- what comes after it: `info ROM`; `run ROM --cycles N`, with `--in P`, `--load S`, `--save S`, `--frames F`,
-- `--sound W`, `--journal J`, `--workers K` and `--pal` if wanted; `demo NUMBER --cycles N --workers W`, with `--pal` if
-- wanted; `vgm JOURNAL OUT` and `play VGM OUT`, with it too; `asm SOURCE OUT`, with `--list L` if wanted;
-- `debug ROM SCRIPT`; `rollback ROM INPUTS --window W`
abbrev pub rules_of : Verb → List Rule
rules_of verb.Info = required (positional (codes "rom")) ∷ []
rules_of verb.Run =
    required (positional (codes "rom")) ∷ flag (codes "pal") ∷ required (option (codes "cycles")) ∷ option (codes "in") ∷ option (codes "load") ∷ option (codes "save") ∷ option (codes "frames") ∷ option (codes "sound")
    ∷ option (codes "journal") ∷ option (codes "workers") ∷ []
rules_of verb.Demo = required (positional (codes "number")) ∷ flag (codes "pal") ∷ required (option (codes "cycles")) ∷ required (option (codes "workers")) ∷ []
rules_of verb.Vgm = required (positional (codes "input")) ∷ required (positional (codes "output")) ∷ flag (codes "pal") ∷ []
rules_of verb.Play = required (positional (codes "input")) ∷ required (positional (codes "output")) ∷ flag (codes "pal") ∷ []
rules_of verb.Asm = required (positional (codes "source")) ∷ required (positional (codes "output")) ∷ option (codes "list") ∷ []
rules_of verb.Debug = required (positional (codes "rom")) ∷ required (positional (codes "script")) ∷ []
rules_of verb.Rollback = required (positional (codes "rom")) ∷ required (positional (codes "inputs")) ∷ required (option (codes "window")) ∷ []

-- its command
unfoldable pub app_for : Verb → App
app_for verb = fold with_rule (bare (name_of verb)) (rules_of verb)

-- the value that was found for an argument
abbrev pub found_by : List Row → Text → Option Text
found_by rows name = first_of name rows

-- what a verb asks for, by the names of the arguments
abbrev pub chosen_by : Verb → (Text → Option Text) → Option Command
chosen_by verb.Info value = option_map Info (info_by value)
chosen_by verb.Run value = option_map RunCart (run_by value)
chosen_by verb.Demo value = option_map RunDemo (demo_by value)
chosen_by verb.Vgm value = option_map Convert (conversion_by Vgm value)
chosen_by verb.Play value = option_map Convert (conversion_by Sound value)
chosen_by verb.Asm value = option_map Assemble (assembling_by value)
chosen_by verb.Debug value = option_map Debug (debugging_by value)
chosen_by verb.Rollback value = option_map Rollback (rolling_by value)

-- what a verb asks for with the words after it
abbrev pub asked_by : Verb → List Text → Option Command
asked_by verb.Info words = option_map Info (info_of words)
asked_by verb.Run words = option_map RunCart (run_of words)
asked_by verb.Demo words = option_map RunDemo (demo_of words)
asked_by verb.Vgm words = option_map Convert (conversion_of Vgm words)
asked_by verb.Play words = option_map Convert (conversion_of Sound words)
asked_by verb.Asm words = option_map Assemble (assembling_of words)
asked_by verb.Debug words = option_map Debug (debugging_of words)
asked_by verb.Rollback words = option_map Rollback (rolling_of words)
