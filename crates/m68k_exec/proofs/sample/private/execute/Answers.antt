use Rattle.std.proofs.Common.{ℕ, Option, subst, sym}
use Rattle.m68k_access.specs.Clauses.{memory_of}
use Rattle.m68k_exec.specs.Sample.Execution.{row}
use Rattle.m68k_exec.specs.Sample.Private.{CarriesOut}
use Rattle.m68k_exec.specs.Sample.Samples.{nothing}
use Rattle.m68k_exec.proofs.Private.{changes}
use Rattle.m68k_exec.proofs.sample.private.execute.Goals as goal

pub returns-in-Quick : goal.returns-in-Quick
returns-in-Quick c =
    subst (λ (result : Option ℕ). CarriesOut result c.args.op.now (row c.args.op.now c.args.start c.args.regs.now) c.args.regs.now c.registers.new.regs (memory_of c.args.context.now) nothing) (sym c.taking-in-Quick.ensures)
    (changes c.registers.result c.args.op.now (row c.args.op.now c.args.start c.args.regs.now) c.args.clocks c.args.regs.now c.registers.new.regs (memory_of c.args.context.now) (c.registers.ensures (memory_of c.args.context.now)) c.requires.clocks)
