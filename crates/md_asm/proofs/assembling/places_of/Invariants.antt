use Rattle.std.proofs.Common.{◌≡◌, ◌++◌, length, map}
use Rattle.md_asm.specs.Assembly.{places_of}
use Rattle.md_asm.specs.Seen.{slot_seen}
use Rattle.md_asm.proofs.assembling.places_of.Given as goal

abbrev pub invariant-loop-rest : goal.invariant-loop-rest
invariant-loop-rest l = l.lines.items ++ places_of (map slot_seen l.rest) ≡ places_of (map slot_seen l.fn.entries)

abbrev pub decreases-loop-rest : goal.decreases-loop-rest
decreases-loop-rest l = length l.rest
