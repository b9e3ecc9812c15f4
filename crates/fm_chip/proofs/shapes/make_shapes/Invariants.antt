use Rattle.std.proofs.Common.{◌≡◌, ◌<◌, ℕ, length}
use Rattle.fm_chip.specs.Shapes.{AreInRange, shapes_at, shapes_of}
use Rattle.fm_chip.proofs.shapes.make_shapes.Given as goal

abbrev pub invariant-loop-number : goal.invariant-loop-number
invariant-loop-number l = record {
  six : length l.channels ≡ 6;
  each : (j : ℕ) → j < l.number → shapes_at l.channels j ≡ shapes_of l.registers j;
  fine : (j : ℕ) → j < l.number → AreInRange (shapes_at l.channels j);
}
