use Rattle.std.specs.Prelude.{IsSome}
use Rattle.md_outer.specs.MemDepot.{depot_state_of}
use Rattle.file_rows.proofs.depots.append_all.Given as goal

-- the file stays begun
abbrev pub invariant-loop-piece : goal.invariant-loop-piece
invariant-loop-piece l = IsSome ((depot_state_of l.depot).begun l.number)
