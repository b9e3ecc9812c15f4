use Rattle.chip_core.specs.Cores.{bound_in}
use Rattle.chip_core.proofs.Lowering.{lower-free, lower-last}
use Rattle.chip_core.proofs.look.free_to.Goals as goal

pub loop-number-preserved : goal.loop-number-preserved
loop-number-preserved g c = record {
  free = lower-free c.args.t (bound_in c.args.bounds.now) c.loop-number.number c.args.chip c.args.sleeper c.loop-number.end c.is_neither.result c.lower.new.end c.is_neither.ensures c.lower.ensures c.loop-number.invariant.free;
  last = lower-last c.args.t (bound_in c.args.bounds.now) c.loop-number.number c.args.chip c.args.sleeper c.loop-number.end c.is_neither.result c.lower.new.end c.is_neither.ensures c.lower.ensures c.loop-number.invariant.last;
}
