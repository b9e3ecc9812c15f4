use Rattle.std.proofs.Common.{◌≡◌}
use Rattle.chip_core.specs.Cores.{IsCore, machine_of, seen}
use Rattle.chip_core.specs.Events.{AreKeys, Reaches}
use Rattle.chip_core.specs.Limits.{all_moves_left}
use Rattle.chip_core.proofs.scheduler.run_least.run_least.Given as goal

-- enabled events led here, and the bounds are the keys
abbrev pub invariant-loop-chip : goal.invariant-loop-chip
invariant-loop-chip g l = record {
  led : Reaches g.C.ChipSet.rules l.t (seen g.C.ChipSet.rules l.fn.core) (seen g.C.ChipSet.rules l.core);
  keys : AreKeys g.C.ChipSet.rules (seen g.C.ChipSet.rules l.core) g.C.ChipSet.rules.count;
  room : l.core.room ≡ l.fn.core.room;
  core : IsCore g.C.ChipSet.rules g.C.ChipSet.chip_ok g.C.ChipSet.shared_ok l.core;
}

abbrev pub decreases-loop-chip : goal.decreases-loop-chip
decreases-loop-chip g l = all_moves_left g.C.ChipSet.rules l.t (machine_of g.C.ChipSet.rules l.core)
