use Rattle.std.proofs.Common.{◌∙◌, sym}
use Rattle.m68k_access.specs.Clauses.{memory_of}
use Rattle.m68k_exec.proofs.PrivateRows.{loads}
use Rattle.m68k_exec.proofs.sample.private.operands.operand_in_memory.Goals as goal

pub returns-in-Some-clause-value : goal.returns-in-Some-clause-value
returns-in-Some-clause-value c =
    loads c.args.mode c.args.size c.args.pc c.in-Memory.address c.in-Some.value c.args.regs.now c.step.new.regs (memory_of c.args.context.now) (sym c.locate.ensures.place ∙ c.in-Memory.is) c.in-Some.ensures.value c.step.ensures
