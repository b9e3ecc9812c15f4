use Rattle.std.proofs.Common.{◌+◌, ◌-◌}
use Rattle.chip_core.specs.Chips.{SamplesTo}
use Rattle.chip_core.proofs.ahead.run.Given as goal

-- the samples so far, each before the key
abbrev pub invariant-loop-chip : goal.invariant-loop-chip
invariant-loop-chip g l = SamplesTo g.C.ChipSet.rules l.samples l.until l.pins l.fn.chip l.chip

abbrev pub decreases-loop-chip : goal.decreases-loop-chip
decreases-loop-chip g l = l.until.cycle + 1 - (g.C.ChipSet.rules.next l.chip).key.cycle
