use Rattle.m68k_exec.proofs.Bounds.Spends.{never_odd, spends, waits}
use Rattle.m68k_exec.proofs.laws.samples_are_bounded.Goals as goal

pub returns : goal.returns
returns c = record { spends = spends; waits = waits; reaches = never_odd }
