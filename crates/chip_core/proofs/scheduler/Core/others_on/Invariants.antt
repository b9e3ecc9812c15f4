use Rattle.std.proofs.Common.{◌≡◌}
use Rattle.chip_core.specs.Cores.{IsCore, machine_of, seen}
use Rattle.chip_core.specs.Events.{AreKeys}
use Rattle.chip_core.specs.Limits.{all_moves_left}
use Rattle.chip_core.proofs.Asleep.{Asleep}
use Rattle.chip_core.proofs.scheduler.Core.others_on.Given as goal

-- what this comes to, once the sleeper has made its samples, is where enabled events lead
abbrev pub invariant-loop-chip : goal.invariant-loop-chip
invariant-loop-chip g l = record {
  asleep : Asleep g.C.ChipSet.rules g.C.ChipSet.chip_ok g.C.ChipSet.shared_ok g.met.C.ChipSet.lawful l.t l.sleeper (g.C.ChipSet.rules.pins l.fn.self.shared l.sleeper) (seen g.C.ChipSet.rules l.fn.self) (seen g.C.ChipSet.rules l.self);
  keys : AreKeys g.C.ChipSet.rules (seen g.C.ChipSet.rules l.self) g.C.ChipSet.rules.count;
  room : l.self.room ≡ l.fn.self.room;
  core : IsCore g.C.ChipSet.rules g.C.ChipSet.chip_ok g.C.ChipSet.shared_ok l.self;
}

abbrev pub decreases-loop-chip : goal.decreases-loop-chip
decreases-loop-chip g l = all_moves_left g.C.ChipSet.rules l.t (machine_of g.C.ChipSet.rules l.self)
