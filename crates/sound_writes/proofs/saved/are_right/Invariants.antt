use Rattle.std.proofs.Common.{◌≡◌, ◌-◌, ◌*◌}
use Rattle.std.specs.List.{list_all}
use Rattle.sound_writes.specs.Entries.{entries_from}
use Rattle.sound_writes.proofs.saved.are_right.Given as goal

abbrev pub invariant-loop-index : goal.invariant-loop-index
invariant-loop-index g l =
    list_all g.W.WriteEntry.is_right (entries_from g.W.WriteEntry.size g.W.WriteEntry.entry (l.count - l.index) (g.W.WriteEntry.size * l.index) l.entries)
    ≡ list_all g.W.WriteEntry.is_right (entries_from g.W.WriteEntry.size g.W.WriteEntry.entry l.count 0 l.entries)
