use Rattle.m68k_access.specs.Memory.{Memory}
use Rattle.m68k_access.specs.Outcomes.{outcome_of}
use Rattle.m68k_exec.specs.Rows.Registers as registers
use Rattle.m68k_exec.specs.Rows.Single as single
use Rattle.m68k_exec.proofs.PrivateRows.{exg-plain, ext-plain, plainly, swap-plain}
use Rattle.m68k_exec.proofs.sample.private.groups.registers.Goals as goal

pub returns-in-Quick : goal.returns-in-Quick
returns-in-Quick c = rw c.in-Quick.is c.quick.ensures

pub returns-in-Immediate : goal.returns-in-Immediate
returns-in-Immediate c = rw c.in-Immediate.is c.immediate.ensures

pub returns-in-Unary : goal.returns-in-Unary
returns-in-Unary c = rw c.in-Unary.is c.unary.ensures

pub returns-in-Swap : goal.returns-in-Swap
returns-in-Swap c =
    rw c.in-Swap.is (λ (memory : Memory). plainly (single.swap c.in-Swap.number c.args.regs.now) (outcome_of c.swap-outcome.result c.swap-outcome.new.regs) memory c.swap-outcome.ensures (swap-plain c.in-Swap.number c.args.regs.now))

pub returns-in-Ext : goal.returns-in-Ext
returns-in-Ext c =
    rw c.in-Ext.is (λ (memory : Memory). plainly (single.ext c.in-Ext.size c.in-Ext.number c.args.regs.now) (outcome_of c.ext-outcome.result c.ext-outcome.new.regs) memory c.ext-outcome.ensures
    (ext-plain c.in-Ext.size c.in-Ext.number c.args.regs.now))

pub returns-in-Exg : goal.returns-in-Exg
returns-in-Exg c =
    rw c.in-Exg.is (λ (memory : Memory). plainly (registers.exg c.in-Exg.first c.in-Exg.second c.args.regs.now) (outcome_of c.exg-outcome.result c.exg-outcome.new.regs) memory c.exg-outcome.ensures
    (exg-plain c.in-Exg.first c.in-Exg.second c.args.regs.now))
