use Rattle.std.proofs.Common.{◌≤◌, subst}
use Rattle.md_word.specs.declared.key.Key.{Key}
use Rattle.bus_shared.specs.Board.{Board, IsBoard}
use Rattle.chip_core.specs.Cores.{CoreValue, machine_of}
use Rattle.chip_core.specs.Machines.{IsValid, Machine}
use Rattle.md_chips.specs.Lists.{ListsEndAsRun}
use Rattle.md_chips.specs.Machines.{MachineValue, core_held}
use Rattle.md_chips.specs.Refinement.{console_of}
use Rattle.md_chips.specs.Rules.{IsChip, five}
use Rattle.md_chips.specs.declared.chips.Chip.{Chip}
use Rattle.md_chips.proofs.Moves.{key-same}
use Rattle.md_chips.proofs.Schedules.{CoreLaws, lists-end}
use Rattle.md_chips.proofs.ValidParts.{parts_in}
use Rattle.md_machine.proofs.machine.Machine.lists_end_as_run.Goals as goal

pub returns : goal.returns
returns c =
    let m = c.self.inside in
    let core : CoreValue Chip Board = core_held m.core in
    let first : Machine Chip Board = machine_of five core in
    let valid : IsValid five IsChip IsBoard first = c.stages.ensures.core core c.self.invariant.valid in
    let laws : CoreLaws = record {
      mover = c.stages.ensures.mover;
      valid = c.stages.ensures.valid;
      made = c.limits.ensures.made;
      first = c.events.ensures.first;
      ended = c.events.ensures.ended;
      few = c.events.ensures.few;
    } in
    subst (λ (v : MachineValue). ListsEndAsRun v.at v.console) c.self.view_is
    (lists-end laws m.at (console_of first) (parts_in first valid)
    (λ i below. subst (λ (k : Key). m.at ≤ k.cycle) (key-same first valid i below) (c.self.invariant.quiet i below)))
