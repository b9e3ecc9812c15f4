use Rattle.m68k_access.proofs.Compares.{compares}
use Rattle.m68k_access.proofs.laws.conditions_compare.Goals as goal

pub returns : goal.returns
returns c = compares
