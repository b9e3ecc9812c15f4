use Rattle.std.proofs.Common.{◌≡◌, take}
use Rattle.chip_core.specs.Cores.{seen}
use Rattle.chip_core.specs.Events.{Leads}
use Rattle.chip_core.proofs.scheduler.Core.run_events.Given as goal

-- the events so far were enabled and are carried out
abbrev pub invariant-loop-i : goal.invariant-loop-i
invariant-loop-i g l = record {
  led : Leads g.C.ChipSet.rules l.t (seen g.C.ChipSet.rules l.initial.self) (take l.i l.list) (seen g.C.ChipSet.rules l.self);
  room : l.self.room ≡ l.initial.self.room;
}
