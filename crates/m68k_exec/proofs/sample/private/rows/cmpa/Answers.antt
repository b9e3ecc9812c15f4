use Rattle.m68k_access.specs.Clauses.{memory_of}
use Rattle.m68k_access.specs.Outcomes.{outcome_of}
use Rattle.m68k_exec.proofs.PrivateRows.{cmpa-row}
use Rattle.m68k_exec.proofs.sample.private.rows.cmpa.Goals as goal

pub returns-in-Some : goal.returns-in-Some
returns-in-Some c =
    cmpa-row c.args.size c.args.number c.args.mode c.args.start c.in-Some.source c.extend.result c.address-target.result c.args.regs.now c.operand.new.regs (outcome_of c.compared-outcome.result c.compared-outcome.new.regs) (memory_of c.args.context.now)
    c.in-Some.ensures.value c.extend.ensures c.address-target.ensures c.compared-outcome.ensures
