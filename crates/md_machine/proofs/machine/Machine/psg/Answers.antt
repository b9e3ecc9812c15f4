use Rattle.std.proofs.Common.{ap, ◌∙◌, lit<}
use Rattle.md_chips.specs.Machines.{MachineValue}
use Rattle.md_chips.specs.Refinement.{console_of, psg_of}
use Rattle.md_chips.specs.Rules.{next}
use Rattle.md_chips.specs.declared.chips.Chip.{Chip}
use Rattle.md_chips.proofs.Held.{read-chip}
use Rattle.md_machine.proofs.machine.Machine.psg.Goals as goal

pub psg_in-requires : goal.psg_in-requires
psg_in-requires c =
    let v = c.core.result.now in
    ap (λ (x : Chip). (next x).key.chip)
    (read-chip v c.chips.result.now 4 c.index-chips-4.result c.core.ensures.core c.chips.ensures.value (lit< tt) c.index-chips-4.is)
    ∙ c.core.ensures.core.shape.number 4 (lit< tt)

pub returns : goal.returns
unfolding console_of
returns c =
    let v = c.core.result.now in
    c.psg_in.ensures
    ∙ ap (λ (x : Chip). (psg_of x).synth)
    (read-chip v c.chips.result.now 4 c.index-chips-4.result c.core.ensures.core c.chips.ensures.value (lit< tt) c.index-chips-4.is)
    ∙ ap (λ (v : MachineValue). v.console.psg) c.core.ensures.value
