use Rattle.std.proofs.Common.{length, map}
use Rattle.sound_writes.specs.Entries.{AreFit}
use Rattle.sound_writes.proofs.saved.known_writes.Given as goal

abbrev pub invariant-loop-rest : goal.invariant-loop-rest
invariant-loop-rest g l = AreFit g.W.WriteEntry.fields (map g.W.WriteEntry.saved_of l.rest) → AreFit g.W.WriteEntry.fields (map g.W.WriteEntry.saved_of l.writes)

abbrev pub decreases-loop-rest : goal.decreases-loop-rest
decreases-loop-rest g l = length l.rest
