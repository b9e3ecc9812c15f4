use Rattle.std.proofs.Common.{◌≡◌, ◌-◌, ◌*◌, ◌++◌, length, map}
use Rattle.sound_writes.specs.Entries.{entries_from}
use Rattle.sound_writes.proofs.saved.read_writes.Given as goal

abbrev pub invariant-loop-index : goal.invariant-loop-index
invariant-loop-index g l = record {
  read : l.into.items ++ map g.W.WriteEntry.write_of (entries_from g.W.WriteEntry.size g.W.WriteEntry.entry (l.count - l.index) (g.W.WriteEntry.size * l.index) l.entries)
      ≡ map g.W.WriteEntry.write_of (entries_from g.W.WriteEntry.size g.W.WriteEntry.entry l.count 0 l.entries);
  length : length l.into.items ≡ l.index;
}
