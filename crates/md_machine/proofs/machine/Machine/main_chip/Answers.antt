use Rattle.std.proofs.Common.{ap, ◌∙◌, lit<}
use Rattle.md_chips.specs.Machines.{MachineValue}
use Rattle.md_chips.specs.Refinement.{console_of, main_of}
use Rattle.md_chips.specs.Rules.{next}
use Rattle.md_chips.specs.declared.chips.Chip.{Chip}
use Rattle.md_chips.proofs.Held.{read-chip}
use Rattle.md_machine.proofs.machine.Machine.main_chip.Goals as goal

pub main_in-requires : goal.main_in-requires
main_in-requires c =
    let v = c.core.result.now in
    ap (λ (x : Chip). (next x).key.chip)
    (read-chip v c.chips.result.now 0 c.index-chips-0.result c.core.ensures.core c.chips.ensures.value (lit< tt) c.index-chips-0.is)
    ∙ c.core.ensures.core.shape.number 0 (lit< tt)

pub returns : goal.returns
unfolding console_of
returns c =
    let v = c.core.result.now in
    c.main_in.ensures
    ∙ ap (λ (x : Chip). (main_of x).chip)
    (read-chip v c.chips.result.now 0 c.index-chips-0.result c.core.ensures.core c.chips.ensures.value (lit< tt) c.index-chips-0.is)
    ∙ ap (λ (v : MachineValue). record { cart = v.console.cart; state = v.console.main }) c.core.ensures.value
