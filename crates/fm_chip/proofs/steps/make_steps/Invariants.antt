use Rattle.std.proofs.Common.{◌≡◌, ◌<◌, ℕ, length}
use Rattle.fm_chip.specs.Steps.{IsSmall, steps_at, steps_of}
use Rattle.fm_chip.proofs.steps.make_steps.Given as goal

abbrev pub invariant-loop-number : goal.invariant-loop-number
invariant-loop-number l = record {
  six : length l.channels ≡ 6;
  each : (j : ℕ) → j < l.number → steps_at l.channels j ≡ steps_of l.registers l.place j;
  small : (j : ℕ) → j < l.number → IsSmall (steps_at l.channels j);
}
