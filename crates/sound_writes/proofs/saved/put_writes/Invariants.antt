use Rattle.std.proofs.Common.{◌≡◌, ◌+◌, ◌*◌, ◌≤◌, ◌++◌, length, map, vec_len, vec_capacity}
use Rattle.sound_writes.specs.Entries.{entries_bytes}
use Rattle.sound_writes.proofs.saved.put_writes.Given as goal

abbrev pub invariant-loop-rest : goal.invariant-loop-rest
invariant-loop-rest g l = record {
  bytes : l.into.items ++ entries_bytes g.W.WriteEntry.fields (map g.W.WriteEntry.saved_of l.rest) ≡ l.fn.into.items ++ entries_bytes g.W.WriteEntry.fields (map g.W.WriteEntry.saved_of l.writes);
  length : vec_len l.into + g.W.WriteEntry.size * length l.rest ≡ vec_len l.fn.into + g.W.WriteEntry.size * length l.writes;
  room : vec_capacity l.fn.into ≤ vec_capacity l.into;
}

abbrev pub decreases-loop-rest : goal.decreases-loop-rest
decreases-loop-rest g l = length l.rest
