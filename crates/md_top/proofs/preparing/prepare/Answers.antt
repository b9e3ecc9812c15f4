use Rattle.std.proofs.Common.{◌≡◌, Global, None, Option, Some, map, refl, string_bytes, subst, sym}
use Rattle.md_args.specs.Shown.{shown_command}
use Rattle.md_args.specs.Commands.{command_of}
use Rattle.md_args.specs.Words.{Command}
use Rattle.md_top.specs.Stages.{LeavesBegun, Stands}
use Rattle.md_top.proofs.Stages.{unbegun}
use Rattle.md_top.proofs.preparing.prepare.Goals as goal

pub returns-in-Ok-Some-clause-prepared : goal.returns-in-Ok-Some-clause-prepared
returns-in-Ok-Some-clause-prepared g c =
    let words : Some (shown_command c.in-Ok-Some.command) ≡ command_of (map (string_bytes {Z = Global}) c.args.words.now.items) =
    rw c.as_slice.ensures.value at (rw c.in-Ok-Some.field-0-is at (c.in-Ok-Some.ensures {u = tt})) in
    subst (λ (asked : Option Command). Stands g.D.Depot.observable g.S.Sink.observable asked (g.D.Depot.state c.args.depot.now) (g.D.Depot.state c.prepare_command.new.depot)
    (g.S.Sink.state c.args.out.now) (g.S.Sink.state c.prepare_command.new.out) c.prepare_command.result)
    words c.prepare_command.ensures.stands

pub returns-in-Ok-Some-clause-files : goal.returns-in-Ok-Some-clause-files
returns-in-Ok-Some-clause-files g c = λ t.
    let words : Some (shown_command c.in-Ok-Some.command) ≡ command_of (map (string_bytes {Z = Global}) c.args.words.now.items) =
    rw c.as_slice.ensures.value at (rw c.in-Ok-Some.field-0-is at (c.in-Ok-Some.ensures {u = tt})) in
    subst (λ (asked : Option Command). LeavesBegun asked (g.D.Depot.state c.args.depot.now).files (g.D.Depot.state c.prepare_command.new.depot).files)
    words (c.prepare_command.ensures.files t)

pub returns-in-Ok-None-clause-prepared : goal.returns-in-Ok-None-clause-prepared
returns-in-Ok-None-clause-prepared g c =
    let words : None ≡ command_of (map (string_bytes {Z = Global}) c.args.words.now.items) =
    rw c.as_slice.ensures.value at (rw c.in-Ok-None.field-0-is at (c.in-Ok-None.ensures {u = tt})) in
    (sym words, refl, refl)

pub returns-in-Ok-None-clause-files : goal.returns-in-Ok-None-clause-files
returns-in-Ok-None-clause-files g c = λ t.
    unbegun (command_of (map (string_bytes {Z = Global}) c.args.words.now.items)) (g.D.Depot.state c.args.depot.now).files (g.D.Depot.state c.args.depot.now).files refl

pub returns-in-Err-clause-files : goal.returns-in-Err-clause-files
returns-in-Err-clause-files g c = λ t.
    unbegun (command_of (map (string_bytes {Z = Global}) c.args.words.now.items)) (g.D.Depot.state c.args.depot.now).files (g.D.Depot.state c.args.depot.now).files refl

pub returns-in-Err-clause-prepared : goal.returns-in-Err-clause-prepared
returns-in-Err-clause-prepared g c = (refl, refl)
