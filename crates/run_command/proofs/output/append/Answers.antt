use Rattle.std.proofs.Common.{Option, ℕ, subst, sym, ◌∙◌}
use Rattle.md_args.specs.Shown.{shown_run}
use Rattle.md_args.specs.Files.{run_output}
use Rattle.run_command.specs.Outputs.{IsBegun}
use Rattle.run_command.proofs.Named.{outputs_apart}
use Rattle.run_command.proofs.Appends.{adds-none, adds-piece, parts-piece}
use Rattle.run_command.proofs.output.append.Goals as goal

pub returns-in-Ok-clause-files : goal.returns-in-Ok-clause-files
returns-in-Ok-clause-files g c = λ t.
    let run = shown_run c.args.run.now in
    let begun = (g.D.Depot.state c.args.depot.now).begun in
    adds-piece run (outputs_apart c.args.run.now) c.args.which begun c.in-Some.file (g.D.Depot.state c.args.depot.now).files (g.D.Depot.state c.append.new.self).files c.args.piece.now
    (subst (λ (number : Option ℕ). IsBegun begun number (run_output run c.args.which)) (sym c.number.ensures ∙ c.in-Some.is) (c.requires.begun c.args.which)) (c.in-Ok.ensures.appended t)

pub returns-in-Err-clause-err_files : goal.returns-in-Err-clause-err_files
returns-in-Err-clause-err_files g c = λ t.
    let run = shown_run c.args.run.now in
    let begun = (g.D.Depot.state c.args.depot.now).begun in
    parts-piece run (outputs_apart c.args.run.now) c.args.which begun c.in-Some.file (g.D.Depot.state c.args.depot.now).files (g.D.Depot.state c.append.new.self).files c.args.piece.now
    (subst (λ (number : Option ℕ). IsBegun begun number (run_output run c.args.which)) (sym c.number.ensures ∙ c.in-Some.is) (c.requires.begun c.args.which)) (c.in-Err.ensures.part t)

pub returns-in-None-clause-files : goal.returns-in-None-clause-files
returns-in-None-clause-files g c = λ t.
    let run = shown_run c.args.run.now in
    adds-none run (outputs_apart c.args.run.now) c.args.which (g.D.Depot.state c.args.depot.now).files c.args.piece.now
    (subst (λ (number : Option ℕ). IsBegun (g.D.Depot.state c.args.depot.now).begun number (run_output run c.args.which)) (sym c.number.ensures ∙ c.in-None.is) (c.requires.begun c.args.which))
