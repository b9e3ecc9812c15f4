use Rattle.z80_exec.proofs.Bounds.Samples.{later, same_sample}
use Rattle.z80_exec.proofs.laws.later_answers_change_no_sample.Goals as goal

pub returns : goal.returns
returns c = record { row = later; sampled = same_sample }
