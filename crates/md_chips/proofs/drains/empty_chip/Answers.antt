use Rattle.std.proofs.Common.{sym, ap, ◌∙◌}
use Rattle.chip_core.specs.Cores.{chip_in}
use Rattle.md_chips.specs.Drained.{emptied}
use Rattle.md_chips.specs.Rules.{five}
use Rattle.md_chips.proofs.Emptied.{emptied-stands}
use Rattle.md_chips.proofs.drains.empty_chip.Goals as goal

pub change-requires-clause-kept : goal.change-requires-clause-kept
change-requires-clause-kept c = λ chip gave.
    emptied-stands (chip_in five c.args.core.now.chips c.args.number) chip (c.chips.ensures.core.chip c.args.number c.requires)
    (sym gave.leaves ∙ gave.met ∙ ap emptied gave.shows)
