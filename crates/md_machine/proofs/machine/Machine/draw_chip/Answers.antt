use Rattle.std.proofs.Common.{ap, ◌∙◌, lit<}
use Rattle.vdp_chip.specs.RendererState.{RendererState}
use Rattle.md_chips.specs.Machines.{MachineValue}
use Rattle.md_chips.specs.Refinement.{console_of, renderer_of}
use Rattle.md_chips.specs.Rules.{next}
use Rattle.md_chips.specs.declared.chips.Chip.{Chip}
use Rattle.md_chips.proofs.Held.{read-chip}
use Rattle.md_machine.proofs.machine.Machine.draw_chip.Goals as goal

pub renderer_in-requires : goal.renderer_in-requires
renderer_in-requires c =
    let v = c.core.result.now in
    ap (λ (x : Chip). (next x).key.chip)
    (read-chip v c.chips.result.now 2 c.index-chips-2.result c.core.ensures.core c.chips.ensures.value (lit< tt) c.index-chips-2.is)
    ∙ c.core.ensures.core.shape.number 2 (lit< tt)

pub returns-clause-next : goal.returns-clause-next
unfolding console_of
returns-clause-next c =
    let v = c.core.result.now in
    ap (λ (d : RendererState). d.next) c.renderer_in.ensures
    ∙ ap (λ (x : Chip). (renderer_of x).chip.next)
    (read-chip v c.chips.result.now 2 c.index-chips-2.result c.core.ensures.core c.chips.ensures.value (lit< tt) c.index-chips-2.is)
    ∙ ap (λ (v : MachineValue). v.console.line) c.core.ensures.value

pub returns-clause-note : goal.returns-clause-note
unfolding console_of
returns-clause-note c =
    let v = c.core.result.now in
    ap (λ (d : RendererState). d.note) c.renderer_in.ensures
    ∙ ap (λ (x : Chip). (renderer_of x).chip.note)
    (read-chip v c.chips.result.now 2 c.index-chips-2.result c.core.ensures.core c.chips.ensures.value (lit< tt) c.index-chips-2.is)
    ∙ ap (λ (v : MachineValue). v.console.note) c.core.ensures.value

pub returns-clause-picture : goal.returns-clause-picture
unfolding console_of
returns-clause-picture c =
    let v = c.core.result.now in
    ap (λ (d : RendererState). d.picture) c.renderer_in.ensures
    ∙ ap (λ (x : Chip). (renderer_of x).chip.picture)
    (read-chip v c.chips.result.now 2 c.index-chips-2.result c.core.ensures.core c.chips.ensures.value (lit< tt) c.index-chips-2.is)
    ∙ ap (λ (v : MachineValue). v.console.picture) c.core.ensures.value

pub returns-clause-region : goal.returns-clause-region
unfolding console_of
returns-clause-region c =
    let v = c.core.result.now in
    ap (λ (d : RendererState). d.pal) c.renderer_in.ensures
    ∙ ap (λ (x : Chip). (renderer_of x).chip.pal)
    (read-chip v c.chips.result.now 2 c.index-chips-2.result c.core.ensures.core c.chips.ensures.value (lit< tt) c.index-chips-2.is)
    ∙ ap (λ (v : MachineValue). v.console.pal) c.core.ensures.value
