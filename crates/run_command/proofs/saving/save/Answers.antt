use Rattle.std.proofs.Common.{List, ℕ, subst, ◌∙◌}
use Rattle.run_command.specs.Outputs.{Adds, AddsParts, nothing}
use Rattle.run_command.specs.Saves.{CanSave}
use Rattle.save_state.specs.States.{state_bytes}
use Rattle.md_args.specs.Shown.{shown_run}
use Rattle.md_args.specs.declared.files.Output.TheVariants.{Save}
use Rattle.run_command.proofs.Appends.{adds-none}
use Rattle.run_command.proofs.Named.{outputs_apart}
use Rattle.run_command.proofs.Ends.{on-err, on-ok}
use Rattle.run_command.proofs.saving.save.Goals as goal

pub returns-in-Some-clause-files : goal.returns-in-Some-clause-files
returns-in-Some-clause-files g c =
    on-ok c.append_pieces.result
    (λ adds t. subst (λ (l : List ℕ). Adds (shown_run c.args.run.now) (g.D.Depot.state c.args.depot.now).files (g.D.Depot.state c.append_pieces.new.depot).files (record nothing { state = l }))
    (c.as_slice.ensures.value ∙ c.spell_state.ensures) (adds t))
    c.append_pieces.ensures.files

pub returns-in-Some-clause-err_files : goal.returns-in-Some-clause-err_files
returns-in-Some-clause-err_files g c =
    on-err c.append_pieces.result
    (λ adds t. subst (λ (l : List ℕ). AddsParts (shown_run c.args.run.now) (g.D.Depot.state c.args.depot.now).files (g.D.Depot.state c.append_pieces.new.depot).files (record nothing { state = l }))
    (c.as_slice.ensures.value ∙ c.spell_state.ensures) (adds t))
    c.append_pieces.ensures.err_files

pub returns-in-None-clause-files : goal.returns-in-None-clause-files
returns-in-None-clause-files g c = λ t.
    adds-none (shown_run c.args.run.now) (outputs_apart c.args.run.now) Save (g.D.Depot.state c.args.depot.now).files (state_bytes c.args.machine.now.at c.args.machine.now.console)
    (subst (CanSave (shown_run c.args.run.now)) c.in-None.is c.requires.buffers)
