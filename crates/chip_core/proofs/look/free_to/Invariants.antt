use Rattle.chip_core.specs.Cores.{bound_in}
use Rattle.chip_core.specs.Looks.{IsFreeTo, IsLastFree}
use Rattle.chip_core.proofs.look.free_to.Given as goal

-- the key of the bounds so far
abbrev pub invariant-loop-number : goal.invariant-loop-number
invariant-loop-number g l = record {
  free : IsFreeTo l.t (bound_in l.bounds) l.number l.chip l.sleeper l.end;
  last : IsLastFree l.t (bound_in l.bounds) l.number l.chip l.sleeper l.end;
}
