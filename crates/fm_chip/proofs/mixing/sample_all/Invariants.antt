use Rattle.fm_chip.proofs.Mixed.{Mixing}
use Rattle.fm_chip.proofs.mixing.sample_all.Given as goal

abbrev pub invariant-loop-number : goal.invariant-loop-number
invariant-loop-number l = Mixing l.registers l.moment l.fn.channels l.number l.channels l.left l.right
