use Rattle.std.proofs.Common.{◌≡◌, ◌+◌, ◌-◌, ◌≤◌, true}
use Rattle.md_word.specs.Clock.{cycle_limit}
use Rattle.z80_chip.specs.Cases.{case_of, is_rest}
use Rattle.z80_chip.specs.Events.{WentAhead}
use Rattle.z80_chip.proofs.chip.Chip80.sample_ahead.Given as goal

-- samples led here, over the same cartridge; where it rested, none is left below the cycle
abbrev pub invariant-loop-self : goal.invariant-loop-self
invariant-loop-self l = record {
  led : WentAhead l.samples l.end l.fn.self.cart l.pins l.fn.self.state l.self.state;
  all : is_rest (case_of l.fn.self.state l.pins) ≡ true → l.end ≤ l.self.state.next;
  cart : l.self.cart ≡ l.fn.self.cart;
  few : l.samples ≤ cycle_limit + 1 + l.self.state.next;
}

abbrev pub decreases-loop-self : goal.decreases-loop-self
decreases-loop-self l = l.end - l.self.state.next
