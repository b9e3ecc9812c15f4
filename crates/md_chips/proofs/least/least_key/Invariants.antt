use Rattle.std.proofs.Common.{◌≡◌}
use Rattle.chip_core.specs.Cores as cores
use Rattle.chip_core.specs.Machines.{least_below}
use Rattle.md_chips.specs.Rules.{five}
use Rattle.md_chips.proofs.least.least_key.Given as goal

abbrev pub invariant-chips : goal.invariant-chips
invariant-chips l = l.least ≡ cores.key_in five l.chips (least_below (cores.key_in five l.chips) l.i)
