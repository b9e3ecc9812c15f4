use Rattle.m68k_laws.proofs.Instructions.{instructions}
use Rattle.m68k_laws.proofs.laws.instructions_follow_footprints.Goals as goal

pub returns : goal.returns
returns c = instructions
