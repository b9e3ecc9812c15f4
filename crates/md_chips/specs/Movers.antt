-- The chip of least key is one of the five.
use Rattle.std.specs.Prelude.{◌<◌}
use Rattle.chip_core.specs.Equations.{least-in}
use Rattle.md_chips.specs.Console.{Console, key_in, mover}

-- the mover's number is below five
pub mover-lt : (machine : Console) → mover machine < 5
unfolding mover
mover-lt machine = least-in (key_in machine) 4
