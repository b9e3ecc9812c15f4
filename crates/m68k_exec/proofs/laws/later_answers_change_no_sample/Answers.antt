use Rattle.m68k_exec.proofs.Later.Rows.{row}
use Rattle.m68k_exec.proofs.Later.Samples.{sampled}
use Rattle.m68k_exec.proofs.laws.later_answers_change_no_sample.Goals as goal

pub returns : goal.returns
returns c = record { row = row; sampled = sampled }
