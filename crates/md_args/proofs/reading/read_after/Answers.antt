use Rattle.std.proofs.Common.{◌∙◌, ap, map, string_bytes, sym}
use Rattle.std.specs.Option.{option_and_then}
use Rattle.clap.specs.Simple.{app_of}
use Rattle.md_args.specs.Parse.{app_for, chosen_by, found_by}
use Rattle.md_args.proofs.Commands.{texts_are}
use Rattle.md_args.proofs.Simple.{as_parsed, is_simple, rows_in}
use Rattle.md_args.proofs.Verbs.{asked_is}
use Rattle.md_args.proofs.reading.read_after.Goals as goal

pub returns-in-Some : goal.returns-in-Some
returns-in-Some c =
    let words = map string_bytes c.args.words.now in
    let verb = c.args.verb in
    let found = as_parsed (app_of c.in_ok-command.command) (app_for verb) words c.in_ok-matches.field-0 c.in_ok-command.ensures (is_simple verb) c.in_ok-matches.ensures in
    c.chosen.ensures
    ∙ ap (option_and_then (λ rows. chosen_by verb (found_by rows))) (ap rows_in (sym c.in-Some.is) ∙ found) ∙ asked_is verb words (texts_are c.args.words.now)

pub returns-in-None : goal.returns-in-None
returns-in-None c =
    let words = map string_bytes c.args.words.now in
    let verb = c.args.verb in
    let found = as_parsed (app_of c.in_ok-command.command) (app_for verb) words c.in_ok-matches.field-0 c.in_ok-command.ensures (is_simple verb) c.in_ok-matches.ensures in
    ap (option_and_then (λ rows. chosen_by verb (found_by rows))) (ap rows_in (sym c.in-None.is) ∙ found) ∙ asked_is verb words (texts_are c.args.words.now)
