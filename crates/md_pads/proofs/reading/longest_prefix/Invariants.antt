use Rattle.std.proofs.Common.{take}
use Rattle.md_pads.specs.Reading.{BeginsIn}
use Rattle.md_pads.proofs.reading.longest_prefix.Given as goal

abbrev pub invariant-loop-place : goal.invariant-loop-place
invariant-loop-place l = BeginsIn l.version (take l.place l.bytes)
