use Rattle.std.proofs.Common.{◌≡◌, ◌≤◌, length, take}
use Rattle.sound_writes.specs.Held.{taken_below}
use Rattle.sound_writes.proofs.saved.take_below.Given as goal

abbrev pub invariant-loop-write : goal.invariant-loop-write
invariant-loop-write g l = record {
  taken : l.into.items ≡ taken_below (λ w. (g.W.WriteEntry.key_of (g.W.WriteEntry.saved_of w)).cycle) l.cycle (take l.write-index l.write-items);
  most : length l.into.items ≤ l.write-index;
}
