use Rattle.std.proofs.Common.{ℕ, List, ap, ◌∙◌}
use Rattle.md_word.specs.declared.key.Key.{Key}
use Rattle.chip_core.specs.Cores as cores
use Rattle.chip_core.specs.Machines as machines
use Rattle.chip_core.specs.Machines.{IsValid, Machine, least_below}
use Rattle.md_chips.specs.Console.{key_in, mover}
use Rattle.md_chips.specs.Machines.{MachineValue}
use Rattle.bus_shared.specs.Board.{Board, IsBoard}
use Rattle.md_chips.specs.Refinement.{console_of}
use Rattle.md_chips.specs.Rules.{IsChip, five}
use Rattle.md_chips.specs.declared.chips.Chip.{Chip}
use Rattle.md_chips.proofs.Lifts.{mover-same}
use Rattle.md_chips.proofs.Moves.{key-same}
use Rattle.md_machine.proofs.machine.Machine.first_key.Goals as goal

pub returns-clause-key : goal.returns-clause-key
unfolding machines.mover
returns-clause-key c =
    let v = c.core.result.now in
    let first : Machine Chip Board = cores.machine_of five v in
    let valid : IsValid five IsChip IsBoard first = c.stages.ensures.core v c.core.ensures.core in
    c.least_key.ensures
    ∙ ap (λ (chips : List Chip). cores.key_in five chips (least_below (cores.key_in five chips) 5)) c.chips.ensures.value
    ∙ key-same first valid (machines.mover five first) (c.stages.ensures.mover first)
    ∙ ap (λ (i : ℕ). key_in (console_of first) i) (mover-same first valid)
    ∙ ap (λ (v : MachineValue). key_in v.console (mover v.console)) c.core.ensures.value

pub returns-clause-chip : goal.returns-clause-chip
unfolding machines.mover
returns-clause-chip c =
    let v = c.core.result.now in
    let first : Machine Chip Board = cores.machine_of five v in
    let valid : IsValid five IsChip IsBoard first = c.stages.ensures.core v c.core.ensures.core in
    ap (λ (k : Key). k.chip) c.least_key.ensures
    ∙ ap (λ (chips : List Chip). (cores.key_in five chips (least_below (cores.key_in five chips) 5)).chip) c.chips.ensures.value
    ∙ valid.number (machines.mover five first) (c.stages.ensures.mover first)
    ∙ mover-same first valid
    ∙ ap (λ (v : MachineValue). mover v.console) c.core.ensures.value
