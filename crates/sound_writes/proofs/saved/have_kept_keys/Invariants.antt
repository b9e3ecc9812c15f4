use Rattle.std.proofs.Common.{◌≡◌, ◌-◌, ◌*◌, map}
use Rattle.sound_writes.specs.Entries.{entries_from}
use Rattle.sound_writes.specs.Keys.{all_fit, following_batch}
use Rattle.sound_writes.proofs.saved.have_kept_keys.Given as goal

abbrev pub invariant-loop-index : goal.invariant-loop-index
invariant-loop-index g l =
    all_fit l.at l.earliest (map g.W.WriteEntry.key_of (entries_from g.W.WriteEntry.size g.W.WriteEntry.entry (l.count - l.index) (g.W.WriteEntry.size * l.index) l.entries))
    ≡ all_fit l.at (following_batch l.at) (map g.W.WriteEntry.key_of (entries_from g.W.WriteEntry.size g.W.WriteEntry.entry l.count 0 l.entries))
