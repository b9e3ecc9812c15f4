use Rattle.m68k_exec.proofs.Private.{sample-runs}
use Rattle.m68k_exec.proofs.sample.private.run_private.Goals as goal

pub returns-then-is_none-clause-cache : goal.returns-then-is_none-clause-cache
returns-then-is_none-clause-cache c = c.note_refused.ensures c.args.cart.now c.requires.cache

pub returns-else-is_none-clause-value : goal.returns-else-is_none-clause-value
returns-else-is_none-clause-value c =
    rw c.bytes.ensures.value at (sample-runs c.run-step.result c.run-step.new.predicted c.in-Some.found.now c.args.regs.now c.run-step.new.regs c.run-step.new.progress.writes.items _ c.in-Some.ensures c.run-step.ensures)
