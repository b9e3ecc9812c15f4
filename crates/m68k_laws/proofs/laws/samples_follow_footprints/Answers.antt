use Rattle.m68k_laws.proofs.Samples.{samples_follow}
use Rattle.m68k_laws.proofs.laws.samples_follow_footprints.Goals as goal

pub returns : goal.returns
returns c = samples_follow
