use Rattle.std.proofs.Common.{ℕ, ◌∙◌, ap}
use Rattle.m68k_access.specs.Memory.{Memory}
use Rattle.m68k_access.specs.Outcomes.{outcome_of}
use Rattle.m68k_access.specs.Shapes.{change_data, following}
use Rattle.m68k_exec.specs.Rows.Arithmetic.{change_address}
use Rattle.m68k_exec.proofs.PrivateRows.{address-plain, data-row, plainly}
use Rattle.m68k_exec.proofs.sample.private.rows.quick.Goals as goal

pub returns-in-Data : goal.returns-in-Data
returns-in-Data c =
    rw c.in-Data.is (λ (memory : Memory). data-row c.args.task c.args.size c.args.value c.in-Data.number (following c.args.start 2) c.args.regs.now (outcome_of c.change_data-outcome.result c.change_data-outcome.new.regs) memory
    (c.change_data-outcome.ensures ∙ ap (λ (n : ℕ). change_data c.args.task c.args.size n c.in-Data.number c.args.regs.now) c.from-value.ensures))

pub returns-in-Address : goal.returns-in-Address
returns-in-Address c =
    rw c.in-Address.is (λ (memory : Memory). plainly (change_address c.args.task c.args.value c.in-Address.number c.args.regs.now) (outcome_of c.change_address-outcome.result c.change_address-outcome.new.regs) memory
    (c.change_address-outcome.ensures ∙ ap (λ (n : ℕ). change_address c.args.task n c.in-Address.number c.args.regs.now) c.from-value.ensures)
    (address-plain c.args.task c.args.value c.in-Address.number c.args.regs.now))
