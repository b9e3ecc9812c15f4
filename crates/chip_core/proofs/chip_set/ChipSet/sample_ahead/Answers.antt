use Rattle.chip_core.proofs.Sampling.{one-sample}
use Rattle.chip_core.proofs.chip_set.ChipSet.sample_ahead.Goals as goal

pub returns : goal.returns
returns g c = one-sample g.Self.ChipSet.rules c.args.end.now c.args.pins.now c.args.chip.now c.sample.new.chip c.requires.sample c.sample.ensures
