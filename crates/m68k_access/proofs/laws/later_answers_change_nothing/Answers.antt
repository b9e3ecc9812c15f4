use Rattle.m68k_access.proofs.Later.Accesses.{all}
use Rattle.m68k_access.proofs.laws.later_answers_change_nothing.Goals as goal

pub returns : goal.returns
returns c = all
