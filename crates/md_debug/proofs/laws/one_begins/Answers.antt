use Rattle.md_chips.proofs.QuietStays.{keys-rise}
use Rattle.md_debug.proofs.Begun.{Known, one-has-begun}
use Rattle.md_debug.proofs.laws.one_begins.Goals as goal

pub returns : goal.returns
returns c =
    let known : Known = record {
      valid = c.parts_stay_valid.ensures;
      rise = keys-rise c.stages.ensures.valid c.stages.ensures.mover c.limits.ensures.spread;
      paced = c.events_are_paced.ensures;
    } in
    λ m moves has far below some. one-has-begun known m moves has far below some
