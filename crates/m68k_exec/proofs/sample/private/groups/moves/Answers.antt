use Rattle.m68k_access.specs.Clauses.{memory_of}
use Rattle.m68k_access.specs.Outcomes.{outcome_of}
use Rattle.m68k_exec.specs.Rows.Links as links
use Rattle.m68k_exec.specs.Rows.Registers as registers
use Rattle.m68k_exec.proofs.PrivateRows.{lea-plain, moveq-plain, plainly}
use Rattle.m68k_exec.proofs.sample.private.groups.moves.Goals as goal

pub returns-in-Moveq : goal.returns-in-Moveq
returns-in-Moveq c =
    rw c.in-Moveq.is (plainly (registers.moveq c.in-Moveq.number c.in-Moveq.byte c.args.regs.now) (outcome_of c.moveq-outcome.result c.moveq-outcome.new.regs) (memory_of c.args.context.now) c.moveq-outcome.ensures
    (moveq-plain c.in-Moveq.number c.in-Moveq.byte c.args.regs.now))

pub returns-in-Lea : goal.returns-in-Lea
returns-in-Lea c =
    rw c.in-Lea.is (plainly (links.lea c.in-Lea.number c.in-Lea.mode c.args.start c.args.regs.now) (outcome_of c.lea-outcome.result c.lea-outcome.new.regs) (memory_of c.args.context.now) c.lea-outcome.ensures
    (lea-plain c.in-Lea.number c.in-Lea.mode c.args.start c.args.regs.now))
