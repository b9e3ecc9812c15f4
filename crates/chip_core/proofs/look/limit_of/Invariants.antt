use Rattle.chip_core.specs.Cores.{bound_in}
use Rattle.chip_core.specs.Looks.{IsLeastLimit, IsLimit}
use Rattle.chip_core.proofs.look.limit_of.Given as goal

-- the limit of the bounds so far
abbrev pub invariant-loop-i : goal.invariant-loop-i
invariant-loop-i g l = record {
  limit : IsLimit g.C.ChipSet.rules l.t (bound_in l.bounds) l.i l.chip l.end;
  least : IsLeastLimit g.C.ChipSet.rules l.t (bound_in l.bounds) l.i l.chip l.end;
}
