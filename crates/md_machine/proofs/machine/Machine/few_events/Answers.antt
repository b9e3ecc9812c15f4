use Rattle.std.proofs.Common.{ℕ, ◌≤◌, ◌+◌, ◌-◌, subst, arith}
use Rattle.md_word.specs.Clock.{cycle_limit}
use Rattle.chip_core.specs.Cores.{CoreValue, machine_of}
use Rattle.chip_core.specs.Machines.{AllBelow, IsValid, Machine}
use Rattle.md_chips.specs.Console as consoles
use Rattle.md_chips.specs.Machines.{MachineValue, core_held}
use Rattle.bus_shared.specs.Board.{Board, IsBoard}
use Rattle.md_chips.specs.Refinement.{console_of}
use Rattle.md_chips.specs.Rules.{IsChip, five}
use Rattle.md_chips.specs.declared.chips.Chip.{Chip}
use Rattle.md_chips.proofs.Segments.{below-lift, moves-few}
use Rattle.md_machine.proofs.machine.Machine.few_events.Goals as goal

pub returns : goal.returns
returns c =
    let m = c.self.inside in
    let core : CoreValue Chip Board = core_held m.core in
    let first : Machine Chip Board = machine_of five core in
    let valid : IsValid five IsChip IsBoard first = c.stages.ensures.core core c.self.invariant.valid in
    let few : (end n : ℕ) → end ≤ cycle_limit → consoles.AllBelow (console_of first) end n → n ≤ end - m.at + 5 = λ end n small below.
    (let lower : AllBelow five first end n =
    below-lift first end n (λ k earlier. c.stages.ensures.valid first end k (omega arith) valid earlier) c.stages.ensures.mover below in
    moves-few first m.at end n c.stages.ensures.mover
    (λ i known. c.limits.ensures.made first end n i (omega arith) valid lower known)
    (c.limits.ensures.within first m.at end (omega arith) c.self.invariant.quiet)) in
    subst (λ (v : MachineValue). (end n : ℕ) → end ≤ cycle_limit → consoles.AllBelow v.console end n → n ≤ end - v.at + 5) c.self.view_is few
