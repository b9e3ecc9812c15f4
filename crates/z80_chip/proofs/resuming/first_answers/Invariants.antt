use Rattle.std.proofs.Common.{◌≡◌, take}
use Rattle.z80_chip.proofs.resuming.first_answers.Given as goal

-- the first so many are copied
abbrev pub invariant-loop-index : goal.invariant-loop-index
invariant-loop-index l = l.first.items ≡ take l.index l.answers
