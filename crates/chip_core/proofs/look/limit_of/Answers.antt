use Rattle.chip_core.specs.Cores.{bound_in}
use Rattle.chip_core.proofs.Lowering.{lower-least, lower-limit}
use Rattle.chip_core.proofs.look.limit_of.Goals as goal

pub loop-i-preserved : goal.loop-i-preserved
loop-i-preserved g c = record {
  limit = lower-limit g.C.ChipSet.rules c.args.t (bound_in c.args.bounds.now) c.loop-i.i c.args.chip c.loop-i.end c.is_other_writer.result c.lower.new.end c.is_other_writer.ensures c.lower.ensures c.loop-i.invariant.limit;
  least = lower-least g.C.ChipSet.rules c.args.t (bound_in c.args.bounds.now) c.loop-i.i c.args.chip c.loop-i.end c.is_other_writer.result c.lower.new.end c.is_other_writer.ensures c.lower.ensures c.loop-i.invariant.least;
}
