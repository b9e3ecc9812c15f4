use Rattle.std.proofs.Common.{◌≡◌, ◌++◌, replicate}
use Rattle.std.specs.List.{flat_map}
use Rattle.md_demo.specs.Demo.{long}
use Rattle.md_demo.proofs.push.push_longs.Given as goal

abbrev pub invariant-longs : goal.invariant-longs
invariant-longs l =
    l.bytes.items ++ flat_map long (replicate l.left l.long) ≡ l.initial.bytes.items ++ flat_map long (replicate l.initial.left l.long)

abbrev pub decreases-longs : goal.decreases-longs
decreases-longs l = l.left
