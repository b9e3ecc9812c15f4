use Rattle.std.proofs.Common.{◌∙◌, ap}
use Rattle.sha2.specs.Sha256.{sha256}
use Rattle.md_chips.specs.Machines.{MachineValue}
use Rattle.save_state.specs.States.{state_bytes}
use Rattle.md_rollback.proofs.running.last_frame.Goals as goal

pub returns : goal.returns
returns c = record {
  frames = c.frames.ensures.frames;
  confirmed = c.confirmed.ensures.confirmed;
  digest = c.digest.ensures ∙ ap sha256 (c.as_slice.ensures.value ∙ c.in_ok-bytes.ensures.bytes ∙ ap (λ (m : MachineValue). state_bytes m.at m.console) c.machine.ensures.machine);
}
