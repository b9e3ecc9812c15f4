use Rattle.std.proofs.Common.{◌+◌, ◌-◌, ◌≤◌, vec_len}
use Rattle.std.specs.Io.KnownBytes.{Consumes}
use Rattle.md_outer.specs.Transfer.{Counts}
use Rattle.md_outer.proofs.transfer.read_to_limit.Given as goal

-- at most one byte past the limit is read, and what was taken is held and counted
abbrev pub invariant-reading : goal.invariant-reading
invariant-reading g l = (vec_len l.bytes ≤ l.limit + 1) × Consumes (g.F.Read.remaining l.initial.from) (g.F.Read.remaining l.from) l.bytes.items
    × Counts l.initial.count (vec_len l.bytes) l.count

abbrev pub decreases-reading : goal.decreases-reading
decreases-reading g l = l.limit + 1 - vec_len l.bytes
