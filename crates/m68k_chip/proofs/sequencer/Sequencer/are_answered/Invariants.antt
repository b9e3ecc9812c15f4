use Rattle.std.proofs.Common.{◌≡◌}
use Rattle.m68k_chip.specs.Resuming.{are_answered}
use Rattle.m68k_chip.specs.States.{state_of}
use Rattle.m68k_chip.proofs.sequencer.Sequencer.are_answered.Given as goal

-- the answers so far are answers
abbrev pub invariant-loop-count : goal.invariant-loop-count
invariant-loop-count l = l.all ≡ are_answered l.cart (state_of l.self l.ram) l.count
