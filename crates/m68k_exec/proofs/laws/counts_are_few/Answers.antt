use Rattle.m68k_exec.proofs.Bounds.CountsFew.{row_counted}
use Rattle.m68k_exec.proofs.laws.counts_are_few.Goals as goal

pub returns : goal.returns
returns c = row_counted
