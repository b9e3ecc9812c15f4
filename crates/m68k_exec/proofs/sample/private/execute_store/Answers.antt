use Rattle.std.proofs.Common.{ℕ, Option, subst, sym}
use Rattle.m68k_access.specs.Clauses.{done_of, memory_of}
use Rattle.m68k_exec.specs.Sample.Execution.{row}
use Rattle.m68k_exec.specs.Sample.Private.{CarriesOut}
use Rattle.m68k_exec.proofs.Private.{stores-takes}
use Rattle.m68k_exec.proofs.sample.private.execute_store.Goals as goal

pub returns-in-Quick : goal.returns-in-Quick
returns-in-Quick c =
    subst (λ (result : Option ℕ). CarriesOut result c.args.op.now (row c.args.op.now c.args.start c.args.regs.now) c.args.regs.now c.stores.new.regs (memory_of c.args.context.now) (done_of c.stores.new.progress)) (sym c.taking.ensures)
    (stores-takes c.stores.result c.args.op.now c.args.start c.args.clocks c.args.regs.now c.stores.new.regs (memory_of c.args.context.now) (done_of c.stores.new.progress) c.requires.alone c.stores.ensures c.requires.clocks)
