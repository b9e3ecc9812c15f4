use Rattle.std.proofs.Common.{ap, ◌∙◌, lit<}
use Rattle.md_chips.specs.Machines.{MachineValue}
use Rattle.md_chips.specs.Refinement.{console_of, fm_of}
use Rattle.md_chips.specs.Rules.{next}
use Rattle.md_chips.specs.declared.chips.Chip.{Chip}
use Rattle.md_chips.proofs.Held.{read-chip}
use Rattle.md_machine.proofs.machine.Machine.fm.Goals as goal

pub fm_in-requires : goal.fm_in-requires
fm_in-requires c =
    let v = c.core.result.now in
    ap (λ (x : Chip). (next x).key.chip)
    (read-chip v c.chips.result.now 3 c.index-chips-3.result c.core.ensures.core c.chips.ensures.value (lit< tt) c.index-chips-3.is)
    ∙ c.core.ensures.core.shape.number 3 (lit< tt)

pub returns : goal.returns
unfolding console_of
returns c =
    let v = c.core.result.now in
    c.fm_in.ensures
    ∙ ap (λ (x : Chip). (fm_of x).synth)
    (read-chip v c.chips.result.now 3 c.index-chips-3.result c.core.ensures.core c.chips.ensures.value (lit< tt) c.index-chips-3.is)
    ∙ ap (λ (v : MachineValue). v.console.fm) c.core.ensures.value
