use Rattle.std.proofs.Common.{refl}
use Rattle.m68k_access.specs.Outcomes.{outcome_of}
use Rattle.m68k_exec.proofs.Private.{bcc-ends, bra-ends, dbcc-ends, jmp-ends, nop-ends}
use Rattle.m68k_exec.proofs.sample.private.groups.branch.Goals as goal

pub returns-in-Nop : goal.returns-in-Nop
returns-in-Nop c = rw c.in-Nop.is (nop-ends c.args.start c.args.clocks c.args.regs.now (rw c.in-Nop.is at c.requires.clocks))

pub returns-in-Jmp : goal.returns-in-Jmp
returns-in-Jmp c =
    rw c.in-Jmp.is (jmp-ends c.in-Jmp.mode c.args.start c.args.clocks c.args.regs.now (outcome_of c.jmp-outcome.result c.jmp-outcome.new.regs) c.jmp-outcome.ensures (rw c.in-Jmp.is at c.requires.clocks))

pub returns-in-Bra : goal.returns-in-Bra
returns-in-Bra c =
    rw c.in-Bra.is (bra-ends c.in-Bra.displacement c.args.start c.args.clocks c.args.regs.now (outcome_of c.bra-outcome.result c.bra-outcome.new.regs) c.bra-outcome.ensures (rw c.in-Bra.is at c.requires.clocks))

pub returns-then-outcome : goal.returns-then-outcome
returns-then-outcome c =
    rw c.in-Bcc.is (bcc-ends c.in-Bcc.condition c.in-Bcc.displacement c.args.start 10 c.args.regs.now (outcome_of c.bcc-outcome.result c.bcc-outcome.new.regs) c.bcc-outcome.ensures (rw c.if-outcome.true refl))

pub returns-else-outcome : goal.returns-else-outcome
returns-else-outcome c =
    rw c.in-Bcc.is (bcc-ends c.in-Bcc.condition c.in-Bcc.displacement c.args.start c.args.clocks c.args.regs.now (outcome_of c.bcc-outcome.result c.bcc-outcome.new.regs) c.bcc-outcome.ensures
    (rw c.if-outcome.false (rw c.in-Bcc.is at c.requires.clocks)))

pub returns-then-outcome-2 : goal.returns-then-outcome-2
returns-then-outcome-2 c =
    rw c.in-Dbcc.is (dbcc-ends c.in-Dbcc.condition c.in-Dbcc.number c.in-Dbcc.by c.args.start 14 c.args.regs.now (outcome_of c.dbcc-outcome.result c.dbcc-outcome.new.regs) c.dbcc-outcome.ensures (rw c.if-outcome-2.true refl))

pub returns-then-outcome-3 : goal.returns-then-outcome-3
returns-then-outcome-3 c =
    rw c.in-Dbcc.is (dbcc-ends c.in-Dbcc.condition c.in-Dbcc.number c.in-Dbcc.by c.args.start 10 c.args.regs.now (outcome_of c.dbcc-outcome.result c.dbcc-outcome.new.regs) c.dbcc-outcome.ensures
    (rw c.if-outcome-2.false (rw c.if-outcome-3.true refl)))

pub returns-else-outcome-3 : goal.returns-else-outcome-3
returns-else-outcome-3 c =
    rw c.in-Dbcc.is (dbcc-ends c.in-Dbcc.condition c.in-Dbcc.number c.in-Dbcc.by c.args.start c.args.clocks c.args.regs.now (outcome_of c.dbcc-outcome.result c.dbcc-outcome.new.regs) c.dbcc-outcome.ensures
    (rw c.if-outcome-2.false (rw c.if-outcome-3.false (rw c.in-Dbcc.is at c.requires.clocks))))
