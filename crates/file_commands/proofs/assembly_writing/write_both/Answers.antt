use Rattle.std.proofs.Common.{inr}
use Rattle.std.specs.Option.{option_copied}
use Rattle.md_args.specs.Shown.{shown_assembling}
use Rattle.md_outer.proofs.WrittenFiles.{prefix-self}
use Rattle.file_commands.proofs.Files.{begun_on, first_on, image_part, list_piece}
use Rattle.file_commands.proofs.assembly_writing.write_both.Goals as goal

pub append_list-requires : goal.append_list-requires
append_list-requires g c = (
  option_copied c.args.words.now.list,
  begun_on (g.D.Depot.state c.begin_list.new.depot) (g.D.Depot.state c.append.new.self) c.in-Ok-begin_list.second (option_copied c.args.words.now.list)
      c.append.ensures.goes_on c.in-Ok-begin_list.ensures.begun,
)

pub returns-in-Err-clause-files : goal.returns-in-Err-clause-files
returns-in-Err-clause-files g c = λ t.
    let words = shown_assembling c.args.words.now in
    let part =
    c.in-Err.ensures.part t words.output
    (first_on (g.D.Depot.state c.begin.new.self) (g.D.Depot.state c.begin_list.new.depot) c.in-Ok.file words.output c.in-Ok-begin_list.ensures.goes_on c.in-Ok.ensures.begun) in
    inr
    (image_part words (g.D.Depot.state c.args.depot.now).files (g.D.Depot.state c.begin.new.self).files (g.D.Depot.state c.begin_list.new.depot).files
    (g.D.Depot.state c.append.new.self).files c.args.image.now c.args.list.now part.0 c.args.words.now.output_and_list_differ (c.in-Ok.ensures.emptied t)
    (c.in-Ok-begin_list.ensures.emptied t) part.1 part.2)

pub returns-in-Err-append_list-clause-files : goal.returns-in-Err-append_list-clause-files
returns-in-Err-append_list-clause-files g c = λ t.
    let words = shown_assembling c.args.words.now in
    let more =
    c.in-Ok-append.ensures.appended t words.output
    (first_on (g.D.Depot.state c.begin.new.self) (g.D.Depot.state c.begin_list.new.depot) c.in-Ok.file words.output c.in-Ok-begin_list.ensures.goes_on c.in-Ok.ensures.begun) in
    let part =
    c.in-Err-append_list.ensures.part t words.list
    (begun_on (g.D.Depot.state c.begin_list.new.depot) (g.D.Depot.state c.append.new.self) c.in-Ok-begin_list.second words.list
    c.in-Ok-append.ensures.goes_on c.in-Ok-begin_list.ensures.begun) in
    inr
    (inr (
      c.args.image.now,
      part.0,
      prefix-self c.args.image.now,
      part.1,
      list_piece words (g.D.Depot.state c.args.depot.now).files (g.D.Depot.state c.begin.new.self).files (g.D.Depot.state c.begin_list.new.depot).files
          (g.D.Depot.state c.append.new.self).files (g.D.Depot.state c.append_list.new.depot).files c.args.image.now part.0
          c.args.words.now.output_and_list_differ (c.in-Ok.ensures.emptied t) (c.in-Ok-begin_list.ensures.emptied t) more part.2,
    ))

pub returns-in-Ok-append_list-clause-files : goal.returns-in-Ok-append_list-clause-files
returns-in-Ok-append_list-clause-files g c = λ t.
    let words = shown_assembling c.args.words.now in
    let more =
    c.in-Ok-append.ensures.appended t words.output
    (first_on (g.D.Depot.state c.begin.new.self) (g.D.Depot.state c.begin_list.new.depot) c.in-Ok.file words.output c.in-Ok-begin_list.ensures.goes_on c.in-Ok.ensures.begun) in
    let last =
    c.in-Ok-append_list.ensures.appended t words.list
    (begun_on (g.D.Depot.state c.begin_list.new.depot) (g.D.Depot.state c.append.new.self) c.in-Ok-begin_list.second words.list
    c.in-Ok-append.ensures.goes_on c.in-Ok-begin_list.ensures.begun) in
    list_piece words (g.D.Depot.state c.args.depot.now).files (g.D.Depot.state c.begin.new.self).files (g.D.Depot.state c.begin_list.new.depot).files
    (g.D.Depot.state c.append.new.self).files (g.D.Depot.state c.append_list.new.depot).files c.args.image.now c.args.list.now
    c.args.words.now.output_and_list_differ (c.in-Ok.ensures.emptied t) (c.in-Ok-begin_list.ensures.emptied t) more last
