use Rattle.m68k_laws.proofs.Exceptions.{exceptions}
use Rattle.m68k_laws.proofs.laws.exceptions_follow_frames.Goals as goal

pub returns : goal.returns
returns c = exceptions
