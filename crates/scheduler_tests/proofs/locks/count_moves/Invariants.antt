use Rattle.chip_run.specs.Places.{AllFree}
use Rattle.scheduler_tests.proofs.locks.count_moves.Given as goal

abbrev pub invariant-loop-answer : goal.invariant-loop-answer
invariant-loop-answer g l = AllFree l.helds
