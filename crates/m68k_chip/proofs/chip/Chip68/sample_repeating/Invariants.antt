use Rattle.std.proofs.Common.{◌≡◌, ◌+◌, ◌-◌, ◌≤◌}
use Rattle.m68k_chip.specs.Events.{WentAhead}
use Rattle.m68k_chip.specs.Repetitions.{IsMarked}
use Rattle.m68k_chip.specs.States.{State68}
use Rattle.m68k_chip.proofs.chip.Chip68.sample_repeating.Given as goal

-- the samples of the entry, and others, led here, over the same cartridge
abbrev pub invariant-loop-pins : goal.invariant-loop-pins
invariant-loop-pins l = record {
  led : (before : State68) → WentAhead l.samples l.end l.fn.self.cart l.pins.level before l.fn.self.state → WentAhead l.count l.end l.fn.self.cart l.pins.level before l.self.state;
  cart : l.self.cart ≡ l.fn.self.cart;
  marked : IsMarked l.mark l.fn.self.cart l.pins.level l.self.state;
  early : l.mark.cycle + l.mark.samples ≤ l.self.state.next;
  least : l.samples ≤ l.count;
  few : l.count ≤ l.self.state.next + 1;
}

abbrev pub decreases-loop-pins : goal.decreases-loop-pins
decreases-loop-pins l = l.end - l.self.state.next
