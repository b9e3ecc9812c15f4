use Rattle.std.proofs.Common.{arith}
use Rattle.std.proofs.lemmas.List.Elements.{All-from_get_or}
use Rattle.fm_chip.specs.Shapes.{AreInRange, no_shapes}
use Rattle.fm_chip.proofs.shapes.make_shapes.Goals as goal

pub returns : goal.returns
returns c = record {
  six = c.loop-number.invariant.six;
  each = λ j h. c.loop-number.invariant.each j (omega (arith, h));
  fine = All-from_get_or AreInRange c.loop-number.channels no_shapes (λ j h. c.loop-number.invariant.fine j (omega (arith, c.loop-number.invariant.six)));
}
