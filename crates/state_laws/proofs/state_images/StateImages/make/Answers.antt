use Rattle.std.proofs.Common.{ap, ◌∙◌}
use Rattle.md_chips.specs.Machines.{MachineValue}
use Rattle.save_state.specs.States.{state_bytes}
use Rattle.state_laws.proofs.state_images.StateImages.make.Goals as goal

pub invariant_of-result : goal.invariant_of-result
invariant_of-result c = record {
  first_is = c.in_ok-first.ensures.bytes ∙ ap (λ (m : MachineValue). state_bytes m.at m.console) c.in_ok-machine.ensures;
  buttons = c.requires;
}
