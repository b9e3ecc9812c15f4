use Rattle.z80_exec.proofs.Refresh.{after_instruction, after_interrupt}
use Rattle.z80_exec.proofs.laws.refresh_rises.Goals as goal

pub returns : goal.returns
returns c = record { instruction = after_instruction; interrupt = after_interrupt }
