use Rattle.std.proofs.Common.{subst, sym, Option, Some}
use Rattle.chip_core.specs.Cores.{CoreValue}
use Rattle.bus_shared.specs.Board.{Board}
use Rattle.md_chips.specs.Machines.{IsMachine}
use Rattle.md_chips.specs.declared.chips.Chip.{Chip}
use Rattle.md_machine.specs.declared.machine.Machine.TheInside.{Inside}
use Rattle.md_chips.proofs.Emptied.{machine-with_emptied}
use Rattle.md_machine.proofs.machine.Machine.empty.Goals.{in-Some, in_default}
use Rattle.md_machine.proofs.machine.Machine.empty.Goals as goal

pub invariant_of-self : goal.invariant_of-self
invariant_of-self c =
    elim c.match-self.branch [
      | in-Some w ↦
          (let before : IsMachine c.self.inside.at (Some w.in-Some.core) = subst (λ (o : Option (CoreValue Chip Board)). IsMachine c.self.inside.at o) w.in-Some.is c.self.invariant in
          let after : IsMachine c.self.inside.at (Some w.empty_chip.new.core) =
          machine-with_emptied w.in-Some.core w.empty_chip.new.core c.self.inside.at c.args.number c.requires before w.empty_chip.ensures.value w.empty_chip.ensures.core in
          subst (λ (i : Inside). IsMachine i.at i.core) (sym w.self-inside-is) after)
      | in_default w ↦ subst (λ (i : Inside). IsMachine i.at i.core) (sym w.self-inside-is) c.self.invariant
    ]
