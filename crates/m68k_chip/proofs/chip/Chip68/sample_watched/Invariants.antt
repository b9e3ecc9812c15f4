use Rattle.std.proofs.Common.{◌≡◌, ◌+◌, ◌-◌, ◌≤◌}
use Rattle.m68k_chip.specs.Iterations.{HasWatched}
use Rattle.m68k_chip.proofs.chip.Chip68.sample_watched.Given as goal

-- samples led here, over the same cartridge
abbrev pub invariant-loop-pins : goal.invariant-loop-pins
invariant-loop-pins l = record {
  watched : HasWatched l.watched l.end l.fn.self.cart l.pins.level l.fn.self.state l.self.state;
  cart : l.self.cart ≡ l.fn.self.cart;
  few : l.watched.samples ≤ l.self.state.next + 1;
}

abbrev pub decreases-loop-pins : goal.decreases-loop-pins
decreases-loop-pins l = l.end - l.self.state.next
