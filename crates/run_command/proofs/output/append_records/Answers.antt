use Rattle.md_args.specs.Shown.{shown_run}
use Rattle.run_command.proofs.Ends.{on-err, on-ok}
use Rattle.run_command.proofs.Appends.{adds-records, parts-records, stop-records}
use Rattle.run_command.proofs.output.append_records.Goals as goal

pub returns-in-Ok-clause-files : goal.returns-in-Ok-clause-files
returns-in-Ok-clause-files g c =
    on-ok c.append-in-Ok.result
    (λ more t. adds-records (shown_run c.args.run.now) (g.D.Depot.state c.args.depot.now).files (g.D.Depot.state c.append.new.depot).files (g.D.Depot.state c.append-in-Ok.new.depot).files c.args.pairs.now c.args.records.now (c.in-Ok.ensures.files t) (more t))
    c.append-in-Ok.ensures.files

pub returns-in-Ok-clause-err_files : goal.returns-in-Ok-clause-err_files
returns-in-Ok-clause-err_files g c =
    on-err c.append-in-Ok.result
    (λ more t. parts-records (shown_run c.args.run.now) (g.D.Depot.state c.args.depot.now).files (g.D.Depot.state c.append.new.depot).files (g.D.Depot.state c.append-in-Ok.new.depot).files c.args.pairs.now c.args.records.now (c.in-Ok.ensures.files t) (more t))
    c.append-in-Ok.ensures.err_files

pub returns-in-Err-clause-err_files : goal.returns-in-Err-clause-err_files
returns-in-Err-clause-err_files g c = λ t. stop-records (shown_run c.args.run.now) (g.D.Depot.state c.args.depot.now).files (g.D.Depot.state c.append.new.depot).files c.args.pairs.now c.args.records.now (c.in-Err.ensures.err_files t)
