use Rattle.std.proofs.Common.{◌≡◌}
use Rattle.chip_core.specs.Cores.{IsCore, seen}
use Rattle.chip_core.specs.Events.{AreKeys, Reaches}
use Rattle.chip_core.specs.Looks.{IsLeastLimit, IsLimit}
use Rattle.chip_core.proofs.Within.{SamplesFrom}
use Rattle.chip_core.proofs.Works.{work}
use Rattle.chip_core.proofs.scheduler.Core.sample_on.Given as goal

-- enabled samples led here, the bounds are the keys, and the limit and the pins are so still
abbrev pub invariant-loop-end : goal.invariant-loop-end
invariant-loop-end g l = record {
  led : Reaches g.C.ChipSet.rules l.t (seen g.C.ChipSet.rules l.fn.self) (seen g.C.ChipSet.rules l.self);
  within : SamplesFrom g.C.ChipSet.rules l.t l.end l.chip (seen g.C.ChipSet.rules l.fn.self) (seen g.C.ChipSet.rules l.self);
  keys : AreKeys g.C.ChipSet.rules (seen g.C.ChipSet.rules l.self) g.C.ChipSet.rules.count;
  limit : IsLimit g.C.ChipSet.rules l.t (seen g.C.ChipSet.rules l.self).bound g.C.ChipSet.rules.count l.chip l.end;
  least : IsLeastLimit g.C.ChipSet.rules l.t (seen g.C.ChipSet.rules l.self).bound g.C.ChipSet.rules.count l.chip l.end;
  pins : l.pins ≡ g.C.ChipSet.rules.pins l.self.shared l.chip;
  room : l.self.room ≡ l.fn.self.room;
  core : IsCore g.C.ChipSet.rules g.C.ChipSet.chip_ok g.C.ChipSet.shared_ok l.self;
}

abbrev pub decreases-loop-end : goal.decreases-loop-end
decreases-loop-end g l = work g.C.ChipSet.rules l.t (seen g.C.ChipSet.rules l.self)
