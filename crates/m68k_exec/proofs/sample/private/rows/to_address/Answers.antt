use Rattle.m68k_access.specs.Clauses.{memory_of}
use Rattle.m68k_access.specs.Outcomes.{outcome_of}
use Rattle.m68k_exec.proofs.PrivateRows.{to_address-row}
use Rattle.m68k_exec.proofs.sample.private.rows.to_address.Goals as goal

pub returns-in-Some : goal.returns-in-Some
returns-in-Some c =
    to_address-row c.args.task c.args.size c.args.number c.args.mode c.args.start c.in-Some.value c.extend.result c.args.regs.now c.operand.new.regs (outcome_of c.change_address-outcome.result c.change_address-outcome.new.regs) (memory_of c.args.context.now)
    c.in-Some.ensures.value c.extend.ensures c.change_address-outcome.ensures
