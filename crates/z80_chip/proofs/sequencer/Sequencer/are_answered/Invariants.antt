use Rattle.std.proofs.Common.{◌≡◌, Some}
use Rattle.z80_chip.specs.Saved.{are_answered}
use Rattle.z80_chip.specs.States.{state_of}
use Rattle.z80_chip.proofs.sequencer.Sequencer.are_answered.Given as goal

-- the answers so far are answers
abbrev pub invariant-loop-count : goal.invariant-loop-count
invariant-loop-count l = l.all ≡ are_answered l.cart (state_of l.self (Some l.parcel)) l.count
