use Rattle.m68k_access.specs.Clauses.{done_of, memory_of}
use Rattle.m68k_access.specs.Outcomes.{outcome_of}
use Rattle.m68k_exec.proofs.Private.{bsr-ends, jsr-ends, rts-ends}
use Rattle.m68k_exec.proofs.sample.private.stores.call.Goals as goal

pub returns-else-not-push_long : goal.returns-else-not-push_long
returns-else-not-push_long c =
    rw c.in-Bsr.is (bsr-ends c.in-Bsr.displacement c.args.start c.args.clocks c.args.regs.now c.push_long.new.regs (outcome_of c.bra-outcome.result c.bra-outcome.new.regs) (memory_of c.args.context.now) (done_of c.push_long.new.progress)
    c.if-not-push_long.ensures c.bra-outcome.ensures (rw c.in-Bsr.is at c.requires.clocks))

pub returns-else-not-push_long-2 : goal.returns-else-not-push_long-2
returns-else-not-push_long-2 c =
    rw c.in-Jsr.is (jsr-ends c.in-Jsr.mode c.args.start c.args.clocks c.effective-target.result c.args.regs.now c.push_long-in-Jsr.new.regs (memory_of c.args.context.now) (done_of c.push_long-in-Jsr.new.progress)
    c.if-not-push_long-2.ensures c.effective-target.ensures (rw c.in-Jsr.is at c.requires.clocks))

pub returns-in-Some : goal.returns-in-Some
returns-in-Some c =
    rw (c.in-Rts.is, c.requires.fresh) (rts-ends c.args.start c.args.clocks c.in-Some.target c.args.regs.now c.pull_long.new.regs (memory_of c.args.context.now) c.in-Some.ensures (rw c.in-Rts.is at c.requires.clocks))
