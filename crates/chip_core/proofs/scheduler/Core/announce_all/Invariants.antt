use Rattle.std.proofs.Common.{◌≡◌, ℕ}
use Rattle.chip_core.specs.Cores.{IsCore, seen}
use Rattle.chip_core.specs.Events.{AreKeys, Reaches}
use Rattle.chip_core.proofs.scheduler.Core.announce_all.Given as goal

-- the bounds so far are keys
abbrev pub invariant-loop-chip : goal.invariant-loop-chip
invariant-loop-chip g l = record {
  led : (t : ℕ) → Reaches g.C.ChipSet.rules t (seen g.C.ChipSet.rules l.initial.self) (seen g.C.ChipSet.rules l.self);
  keys : AreKeys g.C.ChipSet.rules (seen g.C.ChipSet.rules l.self) l.chip;
  room : l.self.room ≡ l.initial.self.room;
  core : IsCore g.C.ChipSet.rules g.C.ChipSet.chip_ok g.C.ChipSet.shared_ok l.self;
}
