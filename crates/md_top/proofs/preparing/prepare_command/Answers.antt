use Rattle.std.proofs.Common.{refl}
use Rattle.md_top.proofs.preparing.prepare_command.Goals as goal

pub returns-in-Info-clause-stands : goal.returns-in-Info-clause-stands
returns-in-Info-clause-stands g c = rw c.in-Info.is (refl, c.show_header.ensures.cause, c.show_header.ensures.files, refl)

pub returns-in-Info-clause-files : goal.returns-in-Info-clause-files
returns-in-Info-clause-files g c = rw c.in-Info.is (λ t. tt)

pub returns-in-Convert-clause-stands : goal.returns-in-Convert-clause-stands
returns-in-Convert-clause-stands g c = rw c.in-Convert.is (refl, c.convert_file.ensures.cause, c.convert_file.ensures.files, refl)

pub returns-in-Convert-clause-files : goal.returns-in-Convert-clause-files
returns-in-Convert-clause-files g c = rw c.in-Convert.is (λ t. tt)

pub returns-in-Assemble-clause-stands : goal.returns-in-Assemble-clause-stands
returns-in-Assemble-clause-stands g c = rw c.in-Assemble.is (refl, c.assemble_source.ensures.cause, c.assemble_source.ensures.files, refl)

pub returns-in-Assemble-clause-files : goal.returns-in-Assemble-clause-files
returns-in-Assemble-clause-files g c = rw c.in-Assemble.is (λ t. tt)

pub returns-in-Debug-clause-stands : goal.returns-in-Debug-clause-stands
returns-in-Debug-clause-stands g c = rw c.in-Debug.is (refl, c.debug_cart.ensures.cause, c.debug_cart.ensures.files, c.debug_cart.ensures.shown)

pub returns-in-Debug-clause-files : goal.returns-in-Debug-clause-files
returns-in-Debug-clause-files g c = rw c.in-Debug.is (λ t. tt)

pub returns-in-Rollback-clause-stands : goal.returns-in-Rollback-clause-stands
returns-in-Rollback-clause-stands g c = rw c.in-Rollback.is (refl, c.roll_cart.ensures.cause, c.roll_cart.ensures.files, refl)

pub returns-in-Rollback-clause-files : goal.returns-in-Rollback-clause-files
returns-in-Rollback-clause-files g c = rw c.in-Rollback.is (λ t. tt)

pub returns-in-Ok-clause-stands : goal.returns-in-Ok-clause-stands
returns-in-Ok-clause-stands g c = rw c.in-Run.is (refl, refl, c.in-Ok.ensures.about)

pub returns-in-Ok-clause-files : goal.returns-in-Ok-clause-files
returns-in-Ok-clause-files g c = rw c.in-Run.is c.begin_run.ensures.files

pub returns-in-Err-clause-stands : goal.returns-in-Err-clause-stands
returns-in-Err-clause-stands g c = rw c.in-Run.is (refl, c.in-Err.ensures.cause, c.in-Err.ensures.left, refl)

pub returns-in-Err-clause-files : goal.returns-in-Err-clause-files
returns-in-Err-clause-files g c = rw c.in-Run.is c.begin_run.ensures.files

pub returns-in-Ok-begin_demo-clause-stands : goal.returns-in-Ok-begin_demo-clause-stands
returns-in-Ok-begin_demo-clause-stands g c = rw c.in-Demo.is (refl, refl, refl, c.in-Ok-begin_demo.ensures.about)

pub returns-in-Ok-begin_demo-clause-files : goal.returns-in-Ok-begin_demo-clause-files
returns-in-Ok-begin_demo-clause-files g c = rw c.in-Demo.is (λ t. refl)

pub returns-in-Err-begin_demo-clause-stands : goal.returns-in-Err-begin_demo-clause-stands
returns-in-Err-begin_demo-clause-stands g c = rw c.in-Demo.is (refl, (refl, c.in-Err-begin_demo.ensures.err), (λ t. refl), refl)

pub returns-in-Err-begin_demo-clause-files : goal.returns-in-Err-begin_demo-clause-files
returns-in-Err-begin_demo-clause-files g c = rw c.in-Demo.is (λ t. refl)
