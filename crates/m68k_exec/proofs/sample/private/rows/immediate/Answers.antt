use Rattle.m68k_access.specs.Memory.{Memory}
use Rattle.m68k_access.specs.Outcomes.{outcome_of}
use Rattle.m68k_exec.proofs.PrivateRows.{immediate-row}
use Rattle.m68k_exec.proofs.sample.private.rows.immediate.Goals as goal

pub returns-in-Data : goal.returns-in-Data
returns-in-Data c =
    rw c.in-Data.is (λ (memory : Memory). immediate-row c.args.task c.args.size c.args.number c.in-Data.register c.args.start c.args.regs.now (outcome_of c.change_data-outcome.result c.change_data-outcome.new.regs) memory c.change_data-outcome.ensures)
