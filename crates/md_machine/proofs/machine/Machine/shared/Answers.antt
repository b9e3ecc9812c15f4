use Rattle.std.proofs.Common.{ap, ◌∙◌}
use Rattle.md_chips.specs.Machines.{MachineValue}
use Rattle.md_chips.specs.Refinement.{console_of}
use Rattle.md_machine.proofs.machine.Machine.shared.Goals as goal

pub returns : goal.returns
unfolding console_of
returns c = c.shared.ensures ∙ ap (λ (v : MachineValue). v.console.shared) c.core.ensures.value
