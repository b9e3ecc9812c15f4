use Rattle.std.proofs.Common.{subst}
use Rattle.chip_core.specs.Cores.{CoreValue, machine_of}
use Rattle.bus_shared.specs.Board.{Board}
use Rattle.md_chips.specs.Machines.{MachineValue, core_held}
use Rattle.md_chips.specs.Rules.{five}
use Rattle.md_chips.specs.ValidParts.{HasValidParts}
use Rattle.md_chips.specs.declared.chips.Chip.{Chip}
use Rattle.md_chips.proofs.ValidParts.{parts_in}
use Rattle.md_machine.proofs.machine.Machine.valid_parts.Goals as goal

pub returns : goal.returns
returns c =
    let m = c.self.inside in
    let core : CoreValue Chip Board = core_held m.core in
    subst (λ (v : MachineValue). HasValidParts v.console) c.self.view_is (parts_in (machine_of five core) (c.stages.ensures.core core c.self.invariant.valid))
