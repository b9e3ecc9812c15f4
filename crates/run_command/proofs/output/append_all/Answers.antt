use Rattle.md_args.specs.Shown.{shown_run}
use Rattle.run_command.proofs.Ends.{on-err, on-ok}
use Rattle.run_command.proofs.Appends.{adds-all, parts-all, stop-all}
use Rattle.run_command.proofs.output.append_all.Goals as goal

pub returns-in-Ok-clause-files : goal.returns-in-Ok-clause-files
returns-in-Ok-clause-files g c =
    on-ok c.append_records.result
    (λ more t. adds-all (shown_run c.args.run.now) (g.D.Depot.state c.args.depot.now).files (g.D.Depot.state c.append.new.depot).files (g.D.Depot.state c.append_records.new.depot).files c.args.frames.now c.args.pairs.now c.args.records.now (c.in-Ok.ensures.files t) (more t))
    c.append_records.ensures.files

pub returns-in-Ok-clause-err_files : goal.returns-in-Ok-clause-err_files
returns-in-Ok-clause-err_files g c =
    on-err c.append_records.result
    (λ more t. parts-all (shown_run c.args.run.now) (g.D.Depot.state c.args.depot.now).files (g.D.Depot.state c.append.new.depot).files (g.D.Depot.state c.append_records.new.depot).files c.args.frames.now c.args.pairs.now c.args.records.now (c.in-Ok.ensures.files t) (more t))
    c.append_records.ensures.err_files

pub returns-in-Err-clause-err_files : goal.returns-in-Err-clause-err_files
returns-in-Err-clause-err_files g c = λ t. stop-all (shown_run c.args.run.now) (g.D.Depot.state c.args.depot.now).files (g.D.Depot.state c.append.new.depot).files c.args.frames.now c.args.pairs.now c.args.records.now (c.in-Err.ensures.err_files t)
