use Rattle.std.proofs.Common.{ap, ◌∙◌, lit<}
use Rattle.md_chips.specs.Machines.{MachineValue}
use Rattle.md_chips.specs.Refinement.{console_of, sub_of}
use Rattle.md_chips.specs.Rules.{next}
use Rattle.md_chips.specs.declared.chips.Chip.{Chip}
use Rattle.md_chips.proofs.Held.{read-chip}
use Rattle.md_machine.proofs.machine.Machine.sub_chip.Goals as goal

pub sub_in-requires : goal.sub_in-requires
sub_in-requires c =
    let v = c.core.result.now in
    ap (λ (x : Chip). (next x).key.chip)
    (read-chip v c.chips.result.now 1 c.index-chips-1.result c.core.ensures.core c.chips.ensures.value (lit< tt) c.index-chips-1.is)
    ∙ c.core.ensures.core.shape.number 1 (lit< tt)

pub returns : goal.returns
unfolding console_of
returns c =
    let v = c.core.result.now in
    c.sub_in.ensures
    ∙ ap (λ (x : Chip). (sub_of x).chip)
    (read-chip v c.chips.result.now 1 c.index-chips-1.result c.core.ensures.core c.chips.ensures.value (lit< tt) c.index-chips-1.is)
    ∙ ap (λ (v : MachineValue). v.console.sub) c.core.ensures.value
