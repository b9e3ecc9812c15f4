use Rattle.std.proofs.Common.{subst}
use Rattle.md_chips.specs.Machines.{MachineValue}
use Rattle.md_chips.specs.Regions.{IsOneRegion}
use Rattle.md_machine.proofs.machine.Machine.one_region.Goals as goal

pub returns : goal.returns
returns c = subst (λ (v : MachineValue). IsOneRegion v.console) c.self.view_is c.self.invariant.region
