use Rattle.std.proofs.Common.{ℕ, sym, subst}
use Rattle.run_command.specs.Courses.{cycle_of}
use Rattle.run_command.specs.Demos.{HaveUntil}
use Rattle.run_command.proofs.Summaries.{have-more}
use Rattle.run_command.proofs.demo.sum_segment.Goals as goal

pub returns-clause-taken : goal.returns-clause-taken
returns-clause-taken g c = λ start came have.
    subst (λ (n : ℕ). HaveUntil start n c.update.new.self) (sym c.advance.ensures.cycle)
    (have-more start (cycle_of c.args.course.now) c.segment_end-to.result c.args.hashers.now c.update.new.self
    c.as_slice.result.now c.as_slice-2.result.now c.as_slice-3.result.now have
    c.update.ensures.frames c.update.ensures.samples c.update.ensures.journal
    (rw c.as_slice.ensures.value (c.advance.ensures.frames start came)) (rw c.as_slice-2.ensures.value (c.advance.ensures.pairs start came))
    (rw c.as_slice-3.ensures.value (c.advance.ensures.records start came)))
